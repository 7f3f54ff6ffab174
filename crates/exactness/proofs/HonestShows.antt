-- What a sender writes down for an honest show is a good beginning and a good trailer. Assumes nothing.
use mathlib.Core.Bool.{true}
use mathlib.Core.List.{List, [], ◌∷◌, ◌++◌, append_assoc, append-nil}
use mathlib.Core.Path.{◌≡◌, refl, sym, ap, ◌∙◌}
use Prim.Native.Nat.{ℕ, suc, ◌+◌, ◌≤◌}
use native.Mathlib.Omega.{arith}
use lib.ListN.{length, length-append}
use Rattle.stream.specs.Head.{head_of, range_of, block_size}
use Rattle.stream.specs.Limits.{body_limit}
use Rattle.stream.specs.Lines.{crlf}
use Rattle.stream.specs.Range.{Range, whole, part, first_byte, is_aligned}
use Rattle.stream.specs.Terms.{Terms}
use Rattle.exactness.specs.Beginning.{Beginning, opening, onward, written, head_in, size, range, start, announces, blocks, body}
use Rattle.exactness.specs.Good.{InRange, of_all, of_part, GoodLine, GoodNextLine, Good, opens, goes_on, GoodEnd}
use Rattle.exactness.specs.Shows.{Chunk, Sending, body_of, chunk_line, signed, hashed, chunks_written, stream_of, Writes, HonestChunks, Sized, Carries, Honest, yeses_of, next_digits, continued, beginning_of}
use Rattle.exactness.specs.Telling.{whole_yeses}
use Rattle.exactness.proofs.ChunkLines.{signature, line_size_lem, line_carries, line_hashes, hashed_more, line_good}
use Rattle.exactness.proofs.Ranges.{head_aligned, ends_within_lem}

-- ---- the bytes

-- what comes after the first line
abbrev tail_of : List Chunk → List ℕ → List ℕ
tail_of [] zeros = []
tail_of (c ∷ cs) zeros = c.block ++ (crlf ++ chunks_written (signed c.signature) cs zeros)

first_line_lem : (more : List ℕ) (cs : List Chunk) (zeros : List ℕ) → chunks_written more cs zeros ≡ chunk_line (next_digits cs zeros) more ++ tail_of cs zeros
unfolding chunks_written
first_line_lem more [] zeros = sym (append-nil (chunk_line zeros more))
first_line_lem more (c ∷ cs) zeros = refl

continued_written : (w : Beginning) (cs : List Chunk) (zeros : List ℕ) → written (continued w cs zeros) ≡ written w ++ tail_of cs zeros
unfolding written continued
continued_written w [] zeros = sym (append-nil (written w))
continued_written w (c ∷ cs) zeros =
    let l : List ℕ = chunk_line (next_digits cs zeros) (signed c.signature) in
    let e : written (onward w c.block l) ++ tail_of cs zeros ≡ written w ++ (c.block ++ (crlf ++ (l ++ tail_of cs zeros))) =
    append_assoc (written w) (c.block ++ (crlf ++ l)) (tail_of cs zeros)
    ∙ ap (λ (k : List ℕ). written w ++ k) (append_assoc c.block (crlf ++ l) (tail_of cs zeros)) in
    continued_written (onward w c.block l) cs zeros ∙ e
    ∙ ap (λ (k : List ℕ). written w ++ (c.block ++ (crlf ++ k))) (sym (first_line_lem (signed c.signature) cs zeros))

pub show_written : (s : Sending) → written (beginning_of s) ++ s.trailer ≡ stream_of s
unfolding written
show_written s =
    let l : List ℕ = chunk_line (next_digits s.chunks s.zeros) (hashed s.before) in
    let t : List ℕ = tail_of s.chunks s.zeros in
    ap (λ (k : List ℕ). k ++ s.trailer)
    (continued_written (opening s.head l) s.chunks s.zeros
    ∙ append_assoc s.head l t
    ∙ ap (λ (k : List ℕ). s.head ++ k) (sym (first_line_lem (hashed s.before) s.chunks s.zeros)))
    ∙ append_assoc s.head (chunks_written (hashed s.before) s.chunks s.zeros) s.trailer

continued_body : (w : Beginning) (cs : List Chunk) (zeros : List ℕ) → body (continued w cs zeros) ≡ body w ++ body_of cs
unfolding body continued body_of
continued_body w [] zeros = sym (append-nil (body w))
continued_body w (c ∷ cs) zeros = continued_body (onward w c.block _) cs zeros ∙ append_assoc (body w) c.block (body_of cs)

pub show_body : (s : Sending) → body (beginning_of s) ≡ body_of s.chunks
unfolding body
show_body s = continued_body (opening s.head _) s.chunks s.zeros

continued_blocks : (w : Beginning) (cs : List Chunk) (zeros : List ℕ) → blocks (continued w cs zeros) ≡ blocks w + length cs
unfolding blocks continued
continued_blocks w [] zeros = omega arith
continued_blocks w (c ∷ cs) zeros = continued_blocks (onward w c.block _) cs zeros ∙ omega arith

pub show_blocks : (s : Sending) → blocks (beginning_of s) ≡ length s.chunks
unfolding blocks
show_blocks s = continued_blocks (opening s.head _) s.chunks s.zeros ∙ omega arith

continued_head : (w : Beginning) (cs : List Chunk) (zeros : List ℕ) → head_in (continued w cs zeros) ≡ head_in w
unfolding head_in continued
continued_head w [] zeros = refl
continued_head w (c ∷ cs) zeros = continued_head (onward w c.block _) cs zeros

pub show_head : (s : Sending) → head_in (beginning_of s) ≡ head_of s.head
unfolding head_in
show_head s = continued_head (opening s.head _) s.chunks s.zeros

-- its yeses
pub show_yeses : (s : Sending) → whole_yeses (beginning_of s) s.trailer ≡ yeses_of s
show_yeses s = rw (show_head s, show_blocks s)

-- ---- the rules

-- the size that comes next
abbrev pub next_size : List Chunk → ℕ
next_size [] = 0
next_size (c ∷ cs) = length c.block

pub next_writes : (cs : List Chunk) (zeros : List ℕ) → HonestChunks cs → Writes zeros 0 → Writes (next_digits cs zeros) (next_size cs)
next_writes [] zeros h z = z
next_writes (c ∷ cs) zeros h z = h.0.size

next_most : (N : ℕ) (cs : List Chunk) → Sized N cs → next_size cs ≤ N
next_most N [] h = omega arith
next_most N (c ∷ []) h = h
next_most N (c ∷ d ∷ cs) h = omega (arith, h.0)

pub rest_sized : (N : ℕ) (c : Chunk) (cs : List Chunk) → Sized N (c ∷ cs) → Sized N cs
rest_sized N c [] h = tt
rest_sized N c (d ∷ cs) h = h.1

-- a block that another comes after is full
full_before : (N : ℕ) (c : Chunk) (cs : List Chunk) → Sized N (c ∷ cs) → 1 ≤ next_size cs → length c.block ≡ N
full_before N c [] h s = absurd (omega arith)
full_before N c (d ∷ cs) h s = h.0

joined_next : (cs : List Chunk) → next_size cs ≤ length (body_of cs)
unfolding body_of
joined_next [] = omega arith
joined_next (c ∷ cs) = omega (arith, length-append c.block (body_of cs))

none_left : (cs : List Chunk) → HonestChunks cs → next_size cs ≡ 0 → length (body_of cs) ≡ 0
unfolding body_of
none_left [] h z = refl
none_left (c ∷ cs) h z = absurd (omega (arith, h.0.some))

-- where the bytes that are sent end: within the body's limit, and those of a part where its range does
abbrev EndsIn : Range → ℕ → Type 0
EndsIn whole end = end ≤ body_limit
EndsIn (part a b t) end = (end ≡ suc b) × (end ≤ body_limit)

honest_ends : (N : ℕ) (r : Range) (body : List ℕ) → is_aligned N r ≡ true → Carries r body → EndsIn r (first_byte r + length body)
unfolding first_byte
honest_ends N whole body k e = omega arith
honest_ends N (part a b t) body k e = (e, omega (arith, ends_within_lem N a b t k))

ends_limit : (r : Range) (end : ℕ) → EndsIn r end → end ≤ body_limit
ends_limit whole end e = e
ends_limit (part a b t) end e = e.1

next_in : (r : Range) (sofar : ℕ) (cs : List Chunk) → HonestChunks cs → EndsIn r (sofar + length (body_of cs)) → InRange r sofar (next_size cs)
next_in whole sofar cs h e = of_all
next_in (part a b t) sofar cs h e =
    let past : sofar + next_size cs ≤ suc b = omega (arith, joined_next cs, e.0) in
    let all : next_size cs ≡ 0 → sofar ≡ suc b = λ z. omega (arith, none_left cs h z, e.0) in
    of_part past all

continued_good : (terms : Terms) (w : Beginning) (cs : List Chunk) (zeros : List ℕ) → Good terms w → announces w ≡ next_size cs
    → HonestChunks cs → Sized (size w) cs → Writes zeros 0 → EndsIn (range w) (start w + length (body w) + length (body_of cs))
    → Good terms (continued w cs zeros) × (announces (continued w cs zeros) ≡ 0)
unfolding continued body_of head_in announces body
continued_good terms w [] zeros g a h s z t = (g, a)
continued_good terms w (c ∷ cs) zeros g a h s z t =
    let v = next_writes cs zeros h.1 z in
    let m = signature c.signature h.0.bytes h.0.sixty_four in
    let sofar : ℕ = start w + length (body w ++ c.block) in
    let e : start w + length (body w) + length (c.block ++ body_of cs) ≡ sofar + length (body_of cs) =
    omega (arith, length-append (body w) c.block, length-append c.block (body_of cs)) in
    let k : EndsIn (range w) (sofar + length (body_of cs)) = rw e at t in
    let l : GoodLine (size w) (range w) sofar (chunk_line (next_digits cs zeros) (signed c.signature)) =
    line_good (size w) (range w) sofar v m (next_most (size w) cs (rest_sized (size w) c cs s)) (next_in (range w) sofar cs h.1 k)
    (omega (arith, joined_next cs, ends_limit (range w) _ k)) in
    let n : GoodNextLine (size w) (range w) sofar c.block (chunk_line (next_digits cs zeros) (signed c.signature)) =
    record { line = l; signed = line_carries v m; unhashed = line_hashes v m; full = λ x. full_before (size w) c cs s (rw (line_size_lem v m) at x) } in
    continued_good terms (onward w c.block (chunk_line (next_digits cs zeros) (signed c.signature))) cs zeros
    (goes_on g (record { some = h.0.some; just = sym a }) n) (line_size_lem v m) h.1 (rest_sized (size w) c cs s) z k

pub show_good : (terms : Terms) (s : Sending) → Honest terms s → Good terms (beginning_of s) × (announces (beginning_of s) ≡ 0)
unfolding head_in announces body
show_good terms s h =
    let N : ℕ = block_size (head_of s.head) in
    let r : Range = range_of (head_of s.head) in
    let v = next_writes s.chunks s.zeros h.chunks h.zeros in
    let m = hashed_more (first_byte r) s.before h.before in
    let k = honest_ends N r (body_of s.chunks) (head_aligned h.head) h.total in
    let l : GoodLine N r (first_byte r) (chunk_line (next_digits s.chunks s.zeros) (hashed s.before)) =
    line_good N r (first_byte r) v m (next_most N s.chunks h.sized) (next_in r (first_byte r) s.chunks h.chunks k)
    (omega (arith, joined_next s.chunks, ends_limit r _ k)) in
    let e : first_byte r + length (body_of s.chunks) ≡ first_byte r + 0 + length (body_of s.chunks) = omega arith in
    continued_good terms (opening s.head (chunk_line (next_digits s.chunks s.zeros) (hashed s.before))) s.chunks s.zeros
    (opens h.head (record { line = l; unsigned = line_carries v m; hashed = line_hashes v m })) (line_size_lem v m) h.chunks h.sized h.zeros (rw e at k)

pub show_end : (terms : Terms) (s : Sending) → Honest terms s → GoodEnd (head_in (beginning_of s)) (body (beginning_of s)) s.trailer
show_end terms s h = rw (show_head s, show_body s) h.end
