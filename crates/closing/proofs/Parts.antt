-- The show that is read off a good beginning is written as just this beginning, part by part. Assumes nothing.
use mathlib.Core.List.{List, [], ◌∷◌, ◌++◌}
use mathlib.Core.Path.{◌≡◌, refl, ap, ◌∙◌}
use mathlib.Core.Bool.{true}
use Prim.Native.Nat.{ℕ}
use Rattle.stream.specs.Blocks.{size_text, is_chunk_line, line_signature}
use Rattle.stream.specs.Head.{head_of, range_of}
use Rattle.stream.specs.Range.{first_byte}
use Rattle.stream.specs.Terms.{Terms}
use Rattle.exactness.specs.Beginning.{Beginning, opening, onward, hash}
use Rattle.exactness.specs.Good.{Good, opens, goes_on}
use Rattle.exactness.specs.Shows.{Chunk, chunk_line, signed, hashed, next_digits, continued}
use Rattle.closing.specs.Rebuilt.{head_text, first_hash, last_line, chunk_between, chunks_in}
use Rattle.closing.proofs.Lines.{first_again, signed_again}

-- a chunk more, at the end
next_more : (cs : List Chunk) (c : Chunk) (zeros : List ℕ) → next_digits (cs ++ c ∷ []) zeros ≡ next_digits cs c.digits
next_more [] c zeros = refl
next_more (d ∷ cs) c zeros = refl

continued_more : (w : Beginning) (cs : List Chunk) (c : Chunk) (zeros : List ℕ)
    → continued w (cs ++ c ∷ []) zeros ≡ onward (continued w cs c.digits) c.block (chunk_line zeros (signed c.signature))
unfolding continued
continued_more w [] c zeros = refl
continued_more w (d ∷ cs) c zeros =
    rw (← next_more cs c zeros) (continued_more (onward w d.block (chunk_line (next_digits (cs ++ c ∷ []) zeros) (signed d.signature))) cs c zeros)

-- what the show is written as
abbrev again : Beginning → Beginning
again w = continued (opening (head_text w) (chunk_line (next_digits (chunks_in w) (size_text (last_line w))) (hashed (first_hash w)))) (chunks_in w) (size_text (last_line w))

-- each line of a good beginning is a chunk line
pub last_good : (terms : Terms) (w : Beginning) → Good terms w → is_chunk_line (last_line w) ≡ true
unfolding last_line
last_good terms w (opens h l) = l.line.text
last_good terms w (goes_on g a n) = n.line.text

pub parts_again : (terms : Terms) (w : Beginning) → Good terms w → again w ≡ w
unfolding head_text first_hash last_line chunks_in continued hash
parts_again terms w (opens {h = h} {l = l} g k) = ap (opening h) (first_again l k.line.text (first_byte (range_of (head_of h))) k.unsigned k.hashed)
parts_again terms w (goes_on {w = v} {b = b} {l = l} g a n) =
    let c : Chunk = chunk_between (last_line v) b l in
    rw (next_more (chunks_in v) c (size_text l))
    (continued_more (opening (head_text v) (chunk_line (next_digits (chunks_in v) (size_text (last_line v))) (hashed (first_hash v)))) (chunks_in v) c (size_text l)
    ∙ ap (λ (k : Beginning). onward k b (chunk_line (size_text l) (signed (line_signature l)))) (parts_again terms v g)
    ∙ ap (onward v b) (signed_again l n.line.text n.signed n.unhashed))
