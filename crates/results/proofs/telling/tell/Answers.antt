-- Where there is room, the signature goes behind the four numbers. Assumes nothing.
use mathlib.Core.Path.{◌≡◌, refl, ap}
use mathlib.Core.List.{List, [], ◌∷◌}
use native.Mathlib.Omega.{arith}
use Prim.Native.Nat.{ℕ, ◌≤◌}
use borrow.Author.Tests.{le-leb}
use lib.ListN.{length}
use lib.Seq.{sets}
use Rattle.state.specs.declared.word.Word.{Word}
use Rattle.packing.specs.Parts.{all_bytes}
use Rattle.results.specs.Results.{result_size, word_of, first_in, second_in, result_bytes, result_in, ending, told}
use Rattle.packing.proofs.PartLaws.{sets_next, long_all}
use Rattle.results.proofs.telling.tell.Goals as goal

module _ (w : Word) (taken : ℕ) (signature d l m : List ℕ) (n t a b : ℕ) where
  all_told : result_size ≤ length d → l ≡ sets d 0 (all_bytes (t ∷ taken ∷ a ∷ b ∷ [])) → m ≡ sets l 32 signature → t ≡ n → n ≡ word_of w → a ≡ first_in w → b ≡ second_in w → ending n m ≡ told w taken signature d
  unfolding result_bytes result_in
  all_told s e f g h i j =
      let ns = word_of w ∷ taken ∷ first_in w ∷ second_in w ∷ [] in
      let o : l ≡ sets d 0 (all_bytes ns) = rw (g, h, i, j) at e in
      rw (h, le-leb result_size (length d) s) (ap (ending (word_of w)) (sets_next d l m (all_bytes ns) signature 0 32 32 o (long_all ns) refl f))

pub returns : goal.returns
returns c =
    let n = c.numbers-number.ensures in
    all_told c.args.word c.args.taken c.args.signature c.args.res.now _ _ _ _ _ _ (omega arith) c.put_numbers.ensures c.put_array.ensures.0 c.from.ensures n.0 n.1 n.2
