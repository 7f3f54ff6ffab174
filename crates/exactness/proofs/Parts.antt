-- AN HONEST PART OF AN HONEST SHOW COMES OUT WHOLE (request #104). Assumes nothing.
use mathlib.Core.Bool.{Bool, true, false}
use mathlib.Core.List.{List, [], ◌∷◌, ◌++◌}
use mathlib.Core.Path.{◌≡◌, refl, sym}
use Prim.Native.Nat.{ℕ, zero, suc, ◌+◌, ◌*◌, ◌≤◌}
use native.Mathlib.Nat.{zero-add}
use native.Mathlib.Omega.{arith}
use lib.ListN.{length, replicate, length-append}
use Rattle.hash.proofs.DigestLaws.{length_sha512, bytes_sha512}
use Rattle.hash.specs.Sha512.{sha512}
use Rattle.sections.specs.Reading.{last}
use Rattle.stream.specs.Blocks.{chained}
use Rattle.stream.specs.Ends.{is_checked}
use Rattle.stream.specs.Events.{Question, closed}
use Rattle.stream.specs.Head.{Head, head_of, injection_id, block_size, trusted_by}
use Rattle.stream.specs.Range.{first_byte}
use Rattle.stream.specs.Ring.{Ring, number_of}
use Rattle.stream.specs.Stream.{plain_reading}
use Rattle.stream.specs.Terms.{Terms}
use Rattle.exactness.specs.Good.{unclaimed}
use Rattle.exactness.specs.Parts.{chain_of, PartOf, BlockEvent, blocks_after, blocks_told, block_events, PartWhole}
use Rattle.exactness.specs.ShowEvents.{chunk_offset, chunk_asks, line_end, end_events, chunk_events, show_events}
use Rattle.exactness.specs.Shows.{Chunk, Sending, body_of, stream_of, HonestChunks, Sized, Before, Honest, claims_end, yeses_of, beginning_of}
use Rattle.exactness.specs.Telling.{head_asks, head_tells, log_of}
use Rattle.exactness.proofs.Clean.{below_bytes}
use Rattle.exactness.proofs.Completeness.{show_complete}
use Rattle.exactness.proofs.HonestShows.{show_written, rest_sized}
use Rattle.exactness.proofs.Ranges.{head_aligned, begins_before}
use Rattle.exactness.proofs.ShowLogs.{show_ending, show_log}

-- ---- a run of chunks

honest_front : (xs ys : List Chunk) → HonestChunks (xs ++ ys) → HonestChunks xs
honest_front [] ys h = tt
honest_front (c ∷ xs) ys h = (h.0, honest_front xs ys h.1)

honest_back : (xs ys : List Chunk) → HonestChunks (xs ++ ys) → HonestChunks ys
honest_back [] ys h = h
honest_back (c ∷ xs) ys h = honest_back xs ys h.1

sized_front : (N : ℕ) (xs ys : List Chunk) → Sized N (xs ++ ys) → Sized N xs
sized_front N [] ys h = tt
sized_front N (c ∷ []) [] h = h
sized_front N (c ∷ []) (d ∷ ys) h = omega (arith, h.0)
sized_front N (c ∷ d ∷ xs) ys h = (h.0, sized_front N (d ∷ xs) ys h.1)

sized_back : (N : ℕ) (xs ys : List Chunk) → Sized N (xs ++ ys) → Sized N ys
sized_back N [] ys h = h
sized_back N (c ∷ xs) ys h = sized_back N xs ys (rest_sized N c (xs ++ ys) h)

first_full : (N : ℕ) (c : Chunk) (cs : List Chunk) → 1 ≤ length cs → Sized N (c ∷ cs) → length c.block ≡ N
first_full N c [] i h = absurd (omega arith)
first_full N c (d ∷ cs) i h = h.0

-- those that others come after are full
full_front : (N : ℕ) (xs ys : List Chunk) → 1 ≤ length ys → Sized N (xs ++ ys) → length (body_of xs) ≡ length xs * N
unfolding body_of
full_front N [] ys i h = omega arith
full_front N (c ∷ xs) ys i h =
    let k = full_front N xs ys i (rest_sized N c (xs ++ ys) h) in
    let m = first_full N c (xs ++ ys) (omega (arith, length-append xs ys)) h in
    omega (arith, length-append c.block (body_of xs))

-- ---- the hash before it

chain_both : (before : List ℕ) (xs ys : List Chunk) → chain_of before (xs ++ ys) ≡ chain_of (chain_of before xs) ys
unfolding chain_of
chain_both before [] ys = refl
chain_both before (c ∷ xs) ys = chain_both (chained before c.block) xs ys

-- it is 64 bytes where any block comes before
chained_long : (before b : List ℕ) → Before 1 (chained before b)
unfolding chained
chained_long before b = (below_bytes (sha512 (before ++ b)) (bytes_sha512 (before ++ b)), length_sha512 (before ++ b))

chain_long : (before : List ℕ) (cs : List Chunk) → Before 1 before → Before 1 (chain_of before cs)
unfolding chain_of
chain_long before [] h = h
chain_long before (c ∷ cs) h = chain_long (chained before c.block) cs (chained_long before c.block)

chain_before : (a : ℕ) (cs : List Chunk) → HonestChunks cs → length (body_of cs) ≡ a → Before a (chain_of [] cs)
unfolding body_of chain_of
chain_before zero [] h e = refl
chain_before zero (c ∷ cs) h e = absurd (omega (arith, h.0.some, length-append c.block (body_of cs)))
chain_before (suc a) [] h e = absurd (omega arith)
chain_before (suc a) (c ∷ cs) h e = chain_long (chained [] c.block) cs (chained_long [] c.block)

-- ---- what is told of its blocks

events_both : (ring : Ring) (h : Head) (i : ℕ) (before : List ℕ) (xs ys : List Chunk)
    → block_events ring h i before (xs ++ ys) ≡ block_events ring h i before xs ++ block_events ring h (i + length xs) (chain_of before xs) ys
unfolding block_events chain_of
events_both ring h i before [] ys =
    let e : i + 0 ≡ i = omega arith in
    rw e
events_both ring h i before (c ∷ xs) ys =
    let e : i + suc (length xs) ≡ suc i + length xs = omega arith in
    rw (e, events_both ring h (suc i) (chained before c.block) xs ys)

-- under another head with the same id, N and key, block i is asked about and told as block j, where their offsets are one
events_same : (ring : Ring) (h k : Head) (i j : ℕ) (before : List ℕ) (cs : List Chunk) → injection_id h ≡ injection_id k → block_size h ≡ block_size k
    → number_of (trusted_by ring h) ≡ number_of (trusted_by ring k) → chunk_offset h i ≡ chunk_offset k j
    → block_events ring h i before cs ≡ block_events ring k j before cs
unfolding block_events chunk_asks
events_same ring h k i j before [] d n r o = refl
events_same ring h k i j before (c ∷ cs) d n r o =
    let next : chunk_offset h (suc i) ≡ chunk_offset k (suc j) = omega arith in
    let rest = events_same ring h k (suc i) (suc j) (chained before c.block) cs d n r next in
    rw (d, r, o, rest)

told_chunks : (ring : Ring) (s : Sending) (q : Question) (i : ℕ) (before : List ℕ) (at : ℕ) (cs : List Chunk)
    → blocks_after q (chunk_events ring s i before at cs) ≡ block_events ring (head_of s.head) i before cs
unfolding blocks_after chunk_events block_events
told_chunks ring s q i before at [] = by (claims_end s)
  where
    by : (x : Bool) → blocks_after q (end_events ring s (at + length s.trailer) x) ≡ []
    by true = refl
    by false = refl
told_chunks ring s q i before at (c ∷ cs) =
    rw (told_chunks ring s (chunk_asks ring (head_of s.head) i before c) (suc i) (chained before c.block) (line_end at c cs s.zeros) cs)

told_show : (ring : Ring) (s : Sending) → blocks_told (show_events ring s) ≡ block_events ring (head_of s.head) 0 s.before s.chunks
unfolding blocks_after show_events head_asks head_tells
told_show ring s = told_chunks ring s _ 0 s.before _ s.chunks

-- ---- the part

module _ (terms : Terms) (s p : Sending) (h : Honest terms s) (q : PartOf terms s p) where
  unclaimed_end : claims_end p ≡ false
  unfolding is_checked
  unclaimed_end = rw q.range

  pub part_honest : Honest terms p
  unfolding first_byte
  part_honest =
      let chunks = rw (← q.run) at h.chunks in
      let sized = rw (← q.run, ← q.same_size) at h.sized in
      record {
        head = q.head;
        chunks = honest_front p.chunks q.later (honest_back q.earlier (p.chunks ++ q.later) chunks);
        sized = sized_front _ p.chunks q.later (sized_back _ q.earlier (p.chunks ++ q.later) sized);
        before = rw (q.range, q.before) (chain_before _ q.earlier (honest_front q.earlier _ chunks) refl);
        total = rw q.range (sym q.sent);
        zeros = q.zeros;
        trailer = q.trailer;
        end = unclaimed unclaimed_end;
      }

  -- with its yeses it is read
  part_read_lem : (r : List ℕ) (answers : List Bool) (told : Bool)
      → plain_reading terms (stream_of p ++ r) (replicate (suc (length p.chunks)) true ++ answers) told ≡ show_events terms.ring p
  part_read_lem r answers told =
      let e : yeses_of p ≡ suc (length p.chunks) = rw unclaimed_end in
      rw e at (show_complete terms p r answers told part_honest)

  -- and ends in *closed*
  part_closes : log_of terms.ring (beginning_of p) ++ (length (stream_of p), last (closed (length (body_of p.chunks)))) ∷ [] ≡ show_events terms.ring p
  part_closes =
      let e = show_ending terms p in
      rw (← show_log terms p part_honest, e, show_written p, unclaimed_end)

  -- the blocks before it are full, and so its first one has the offset that it has in the show
  some_sent : 1 ≤ length p.chunks
  unfolding body_of
  some_sent = by p.chunks q.sent
    where
      a : ℕ
      a = length (body_of q.earlier)

      most : a ≤ q.last_byte
      most = begins_before (block_size (head_of p.head)) a q.last_byte (length (body_of s.chunks)) (rw q.range at (head_aligned q.head))

      by : (cs : List Chunk) → suc q.last_byte ≡ a + length (body_of cs) → 1 ≤ length cs
      by [] e = absurd (omega (arith, most))
      by (c ∷ cs) e = omega arith

  same_offset : chunk_offset (head_of p.head) 0 ≡ chunk_offset (head_of s.head) (length q.earlier)
  unfolding first_byte
  same_offset =
      let i : 1 ≤ length (p.chunks ++ q.later) = omega (arith, some_sent, length-append p.chunks q.later) in
      let k = full_front (block_size (head_of s.head)) q.earlier (p.chunks ++ q.later) i (rw (← q.run) at h.sized) in
      rw (q.range, q.all_sent) (omega arith)

  nothing_before : s.before ≡ []
  unfolding first_byte
  nothing_before = rw q.all_sent at h.before

  abbrev show_from : ℕ → List ℕ → List Chunk → List BlockEvent
  show_from i before cs = block_events terms.ring (head_of s.head) i before cs

  -- what is told of its blocks is what the show tells of them
  own_blocks : blocks_told (show_events terms.ring p) ≡ show_from (length q.earlier) (chain_of [] q.earlier) p.chunks
  own_blocks =
      rw (told_show terms.ring p, q.before)
      (events_same terms.ring (head_of p.head) (head_of s.head) 0 (length q.earlier) (chain_of [] q.earlier) p.chunks
      q.same_id q.same_size q.same_key same_offset)

  part_blocks : blocks_told (show_events terms.ring s)
      ≡ show_from 0 [] q.earlier
      ++ (blocks_told (show_events terms.ring p) ++ show_from (length (q.earlier ++ p.chunks)) (chain_of [] (q.earlier ++ p.chunks)) q.later)
  part_blocks =
      rw (
        told_show terms.ring s,
        nothing_before,
        ← q.run,
        own_blocks,
        length-append q.earlier p.chunks,
        chain_both [] q.earlier p.chunks,
        events_both terms.ring (head_of s.head) 0 [] q.earlier (p.chunks ++ q.later),
        zero-add (length q.earlier),
        events_both terms.ring (head_of s.head) (length q.earlier) (chain_of [] q.earlier) p.chunks q.later,
      )

  -- THE THEOREM
  pub part_whole : PartWhole terms s p q
  part_whole = record { honest = part_honest; read = part_read_lem; others = log_of terms.ring (beginning_of p); closes = part_closes; blocks = part_blocks }
