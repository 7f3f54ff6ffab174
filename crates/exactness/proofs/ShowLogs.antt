-- The events that are computed from a show are those of the beginning that it is written as. Assumes nothing.
use mathlib.Core.Bool.{Bool, true, false}
use mathlib.Core.List.{List, [], ◌∷◌, ◌++◌, append_assoc}
use mathlib.Core.Path.{◌≡◌, refl, ap, ◌∙◌}
use Prim.Native.Nat.{ℕ}
use lib.ListN.{length, length-append}
use Rattle.sections.specs.Reading.{Log}
use Rattle.stream.specs.Events.{Question, Release, LastWord}
use Rattle.stream.specs.Head.{Head, head_of, range_of}
use Rattle.stream.specs.Range.{first_byte}
use Rattle.stream.specs.Terms.{Terms}
use Rattle.exactness.specs.Beginning.{Beginning, opening, onward, written, head_in, blocks, hash, offset}
use Rattle.exactness.specs.Good.{claims}
use Rattle.exactness.specs.ShowEvents.{chunk_offset, chunk_asks, end_events, chunk_events, show_events}
use Rattle.exactness.specs.Shows.{Chunk, Sending, chunk_line, signed, hashed, Writes, HonestChunks, Honest, claims_end, next_digits, continued, beginning_of}
use Rattle.exactness.specs.Telling.{block_asks, log_of, end_log, whole_log}
use Rattle.exactness.proofs.ChunkLines.{line_signature_lem, first_hash_lem}
use Rattle.exactness.proofs.Forward.{place_is}
use Rattle.exactness.proofs.HonestShows.{next_writes, show_body, show_head}

module _ (terms : Terms) (s : Sending) where
  abbrev ending : Beginning → Log Question Release LastWord
  ending w = end_events terms.ring s (length (written w ++ s.trailer)) (claims_end s)

  -- the line after a chunk
  abbrev line_after : Chunk → List Chunk → List ℕ
  line_after c cs = chunk_line (next_digits cs s.zeros) (signed c.signature)

  asks_same : (w : Beginning) (c : Chunk) (cs : List Chunk) → head_in w ≡ head_of s.head → HonestChunks (c ∷ cs) → Writes s.zeros 0
      → block_asks terms.ring w c.block (line_after c cs) ≡ chunk_asks terms.ring (head_of s.head) (blocks w) (hash w) c
  unfolding block_asks chunk_asks hash
  asks_same w c cs e h z =
      rw (line_signature_lem c.signature (next_writes cs s.zeros h.1 z) h.0.bytes h.0.sixty_four, e)

  offset_same : (w : Beginning) → head_in w ≡ head_of s.head → offset w ≡ chunk_offset (head_of s.head) (blocks w)
  offset_same w e = ap (λ (h : Head). chunk_offset h (blocks w)) e

  continued_log : (w : Beginning) (cs : List Chunk) → head_in w ≡ head_of s.head → HonestChunks cs → Writes s.zeros 0
      → log_of terms.ring (continued w cs s.zeros) ++ ending (continued w cs s.zeros)
      ≡ log_of terms.ring w ++ chunk_events terms.ring s (blocks w) (hash w) (length (written w)) cs
  unfolding continued chunk_events head_in blocks hash log_of
  continued_log w [] e h z = rw (length-append (written w) s.trailer)
  continued_log w (c ∷ cs) e h z =
      rw (place_is w c.block (line_after c cs), ← asks_same w c cs e h z, ← offset_same w e)
      (continued_log (onward w c.block (line_after c cs)) cs e h.1 z ∙ append_assoc (log_of terms.ring w) _ _)

  -- the events of the end, told of the beginning and of the show
  same_end : (x : Bool) → end_log terms.ring (beginning_of s) s.trailer x ≡ end_events terms.ring s (length (written (beginning_of s) ++ s.trailer)) x
  same_end true = rw (show_head s, show_body s)
  same_end false = rw (show_body s)

  pub show_ending : end_log terms.ring (beginning_of s) s.trailer (claims (head_in (beginning_of s)) s.trailer)
      ≡ end_events terms.ring s (length (written (beginning_of s) ++ s.trailer)) (claims_end s)
  show_ending = ap (λ (h : Head). end_log terms.ring (beginning_of s) s.trailer (claims h s.trailer)) (show_head s) ∙ same_end (claims_end s)

  pub show_log : Honest terms s → whole_log terms.ring (beginning_of s) s.trailer ≡ show_events terms.ring s
  unfolding show_events head_in blocks hash log_of written
  show_log h =
      let l : List ℕ = chunk_line (next_digits s.chunks s.zeros) (hashed s.before) in
      let v = next_writes s.chunks s.zeros h.chunks h.zeros in
      let e = first_hash_lem (first_byte (range_of (head_of s.head))) s.before v h.before in
      rw (show_ending, ← length-append s.head l) (rw e at (continued_log (opening s.head l) s.chunks refl h.chunks h.zeros))
