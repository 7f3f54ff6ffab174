-- A message shorter than the block's other half goes into one piece with what stands before it; of a longer one the first half block does.
use Rattle.std.proofs.Common.{◌≡◌, ℕ, ◌+◌, ◌-◌, ◌*◌, List, length, take, drop, ap, ◌∙◌, zero-add, arith, length-drop, take_all, rules}
use Rattle.hash.specs.Sha2.{finished}
use Rattle.hash.specs.Sha512.{variant, initial_words, round_words}
use Rattle.hash.proofs.LastLaws.{after_short, after_long}
use Rattle.hash.proofs.sha512_after.Goals as goal

-- the whole of n bytes, and a message from its first half block on
abbrev done : ℕ → List ℕ → List ℕ → List ℕ
done n l s = finished variant (n * 128 + length l) l s

whole : (l s : List ℕ) → done 0 l s ≡ finished variant (length l) l s
whole l s = ap (λ (i : ℕ). finished variant i l s) (zero-add (length l))

rest : (m s : List ℕ) → done 1 (take (length m - 64) (drop 64 m)) s ≡ done 1 (drop 64 m) s
rest m s = ap (λ (l : List ℕ). done 1 l s) (take_all (length m - 64) (drop 64 m) (omega (arith, length-drop 64 m)))

pub finish-requires : goal.finish-requires
unfolding round_words
finish-requires c = search rules

pub returns-then-n-lt64 : goal.returns-then-n-lt64
returns-then-n-lt64 c =
    let a = c.args.before in
    let d = c.args.message.now in
    let l : length a ≡ 64 = search rules in
    c.finish.ensures ∙ whole _ initial_words
    ∙ after_short a d c.copy.new.to c.copy-then-n-lt64.new.to l (search rules) c.copy.ensures c.copy-then-n-lt64.ensures

pub hash_blocks-h-requires : goal.hash_blocks-h-requires
unfolding round_words
hash_blocks-h-requires c = search rules

pub finish-requires-2 : goal.finish-requires-2
unfolding round_words
finish-requires-2 c = search rules

pub returns : goal.returns
returns c =
    let a = c.args.before in
    let m = c.args.message.now in
    let l : length a ≡ 64 = search rules in
    c.finish-2.ensures ∙ rest m c.hash_blocks-h.result
    ∙ after_long a m c.copy.new.to c.copy-2.new.to c.hash_blocks-h.result l c.if-n-lt64.false c.copy.ensures c.copy-2.ensures (search rules) c.hash_blocks-h.ensures
