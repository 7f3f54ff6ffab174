-- The show that is read off a good beginning, a good trailer and a good end is honest, and these are its stream. Assumes nothing.
use mathlib.Core.List.{List, [], ◌∷◌, ◌++◌}
use mathlib.Core.Path.{◌≡◌, refl, sym, ap, ◌∙◌}
use Prim.Native.Nat.{ℕ, zero, suc, ◌+◌, ◌≤◌}
use native.Mathlib.Omega.{arith}
use lib.ListN.{length}
use Rattle.stream.specs.Blocks.{size_text, chunk_size}
use Rattle.stream.specs.Head.{head_of, range_of}
use Rattle.stream.specs.Limits.{body_limit}
use Rattle.stream.specs.Numbers.{hex_value}
use Rattle.stream.specs.Range.{Range, whole, part, first_byte}
use Rattle.stream.specs.Terms.{Terms}
use Rattle.exactness.specs.Beginning.{Beginning, opening, onward, written, head_in, size, range, start, announces, body, hash_before, hash}
use Rattle.exactness.specs.Good.{GoodHead, InRange, of_part, Good, opens, goes_on, GoodTrailer, GoodEnd}
use Rattle.exactness.specs.Shows.{Chunk, Sending, body_of, Writes, HonestChunk, HonestChunks, Sized, Before, Carries, beginning_of}
use Rattle.exactness.proofs.HonestShows.{show_written, show_body}
use Rattle.closing.specs.Closing.{IsShowOf}
use Rattle.closing.specs.Rebuilt.{head_text, first_hash, last_line, chunk_between, chunks_in, show_from}
use Rattle.closing.proofs.Lines.{signature_bytes, signature_length, hash_bytes, hash_length, size_well}
use Rattle.closing.proofs.Parts.{last_good, parts_again}

head_good : (terms : Terms) (w : Beginning) → Good terms w → GoodHead terms (head_text w) × (head_in w ≡ head_of (head_text w))
unfolding head_text head_in
head_good terms w (opens h l) = (h, refl)
head_good terms w (goes_on {w = v} g a n) = head_good terms v g

-- the size in its last line
last_writes : (terms : Terms) (w : Beginning) → Good terms w → Writes (size_text (last_line w)) (announces w)
unfolding last_line announces chunk_size
last_writes terms w g = record { text = size_well (last_line w) (last_good terms w g); value = value w }
  where
    value : (w : Beginning) → hex_value (size_text (last_line w)) ≡ announces w
    value (opening h l) = refl
    value (onward w b l) = refl

honest_more : (cs : List Chunk) (c : Chunk) → HonestChunks cs → HonestChunk c → HonestChunks (cs ++ c ∷ [])
honest_more [] c h k = (k, tt)
honest_more (d ∷ cs) c h k = (h.0, honest_more cs c h.1 k)

chunks_honest : (terms : Terms) (w : Beginning) → Good terms w → HonestChunks (chunks_in w)
unfolding chunks_in
chunks_honest terms w (opens h l) = tt
chunks_honest terms w (goes_on {w = v} {b = b} {l = l} g a n) =
    honest_more (chunks_in v) (chunk_between (last_line v) b l) (chunks_honest terms v g)
    (record { some = a.some; size = rw a.just (last_writes terms v g); bytes = signature_bytes l; sixty_four = signature_length l })

-- every block has N bytes
abbrev Full : ℕ → List Chunk → Type 0
Full N [] = Unit {0}
Full N (c ∷ cs) = (length c.block ≡ N) × Full N cs

full_more : (N : ℕ) (cs : List Chunk) (c : Chunk) → Full N cs → length c.block ≡ N → Full N (cs ++ c ∷ [])
full_more N [] c f e = (e, tt)
full_more N (d ∷ cs) c f e = (f.0, full_more N cs c f.1 e)

sized_more : (N : ℕ) (cs : List Chunk) (c : Chunk) → Full N cs → length c.block ≤ N → Sized N (cs ++ c ∷ [])
sized_more N [] c f m = m
sized_more N (d ∷ []) c f m = (f.0, m)
sized_more N (d ∷ e ∷ cs) c f m = (f.0, sized_more N (e ∷ cs) c f.1 m)

-- where a further block is announced, all so far are full; and it has at most N bytes, which are among those that the answer carries
record Sizes (w : Beginning) : Type 0 where
  sized : Sized (size w) (chunks_in w)
  full : 1 ≤ announces w → Full (size w) (chunks_in w)
  most : announces w ≤ size w
  carried : InRange (range w) (start w + length (body w)) (announces w)
  total : start w + length (body w) ≤ body_limit

sizes : (terms : Terms) (w : Beginning) → Good terms w → Sizes w
unfolding chunks_in announces head_in body
sizes terms w (opens {h = h} g l) =
    let e : first_byte (range_of (head_of h)) ≡ first_byte (range_of (head_of h)) + 0 = omega arith in
    record { sized = tt; full = λ x. tt; most = l.line.most; carried = rw e at l.line.carried; total = omega (arith, l.line.total) }
sizes terms w (goes_on {w = v} {b = b} {l = l} g a n) =
    let s = sizes terms v g in
    let c : Chunk = chunk_between (last_line v) b l in
    let f = s.full (omega (arith, a.some, a.just)) in
    record {
      sized = sized_more (size v) (chunks_in v) c f (omega (arith, a.just, s.most));
      full = λ x. full_more (size v) (chunks_in v) c f (n.full x);
      most = n.line.most;
      carried = n.line.carried;
      total = omega (arith, n.line.total);
    }

-- the hash before the first block
before_is : (terms : Terms) (w : Beginning) → Good terms w → Before (start w) (first_hash w)
unfolding first_hash hash head_in
before_is terms w (opens {h = h} {l = l} g k) = by (first_byte (range_of (head_of h)))
  where
    by : (a : ℕ) → Before a (hash_before a l)
    by zero = refl
    by (suc a) = (hash_bytes l, hash_length l)
before_is terms w (goes_on {w = v} g a n) = before_is terms v g

-- where a 0 line is good, all bytes came that the answer carries
all_carried : (r : Range) (body : List ℕ) → InRange r (first_byte r + length body) 0 → first_byte r + length body ≤ body_limit → Carries r body
unfolding first_byte
all_carried whole body i t = omega arith
all_carried (part a b n) body (of_part past all) t = all refl

-- A GOOD BEGINNING that ends in a 0 line, and a good trailer, are the stream of an honest show, where they claim a good end or none.
pub is_show : (terms : Terms) (w : Beginning) (t : List ℕ) → Good terms w → announces w ≡ 0 → GoodTrailer t → GoodEnd (head_in w) (body w) t
    → IsShowOf terms w t (show_from w t)
is_show terms w t g z k e =
    let s : Sending = show_from w t in
    let p : beginning_of s ≡ w = parts_again terms w g in
    let b : body_of s.chunks ≡ body w = sym (show_body s) ∙ ap body p in
    let h = head_good terms w g in
    let m = sizes terms w g in
    record {
      honest =
          record {
            head = h.0;
            chunks = chunks_honest terms w g;
            sized = rw h.1 at m.sized;
            before = rw h.1 at (before_is terms w g);
            total = rw (b, ← h.1) (all_carried (range w) (body w) (rw z at m.carried) m.total);
            zeros = rw z at (last_writes terms w g);
            trailer = k;
            end = rw (b, ← h.1) e;
          };
      parts = p;
      stream = sym (show_written s) ∙ ap (λ (x : Beginning). written x ++ t) p;
      whole_body = b;
    }
