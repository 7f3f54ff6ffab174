-- A byte of the line after a block, which leads to the block's question. Assumes nothing.
use mathlib.Core.Path.{◌≡◌, refl, sym}
use mathlib.Core.Bool.{Bool, true, false}
use mathlib.Core.List.{List, [], ◌∷◌, ◌++◌}
use Prim.Native.Nat.{ℕ, zero, suc, ◌+◌, ◌≤◌, ◌<◌}
use native.Mathlib.Omega.{arith}
use borrow.Author.Tests.{le-leb, lt-leb}
use lib.Dec.{eqb, leb}
use lib.ListN.{length, take, drop, set, length-append, length-drop, length-set}
use lib.Seq.{take-append_seam}
use Rattle.octets.specs.Choice.{pick}
use Rattle.sections.specs.Reading.{question}
use Rattle.sections.specs.Calls.{event}
use Rattle.sections.specs.Machine.{ruling, gathered, step}
use Rattle.chunk.specs.Judging.{line_judged, unless_fault, good_line, carried_by}
use Rattle.blocks.specs.Place.{offset_at}
use Rattle.blocks.specs.Writing.{at_front, message_written}
use Rattle.number.specs.Writing.{written}
use Rattle.sha256.specs.Midstate.{Holds}
use Rattle.sha256.proofs.Parts.{added_holds}
use Rattle.stream.specs.Blocks.{is_whole_line, carries_signature, chunk_size, line_signature, line_rules, line_fault, chained, block_message}
use Rattle.stream.specs.Limits.{line_limit, body_limit}
use Rattle.stream.specs.Lines.{Field}
use Rattle.stream.specs.Places.{line_place}
use Rattle.stream.specs.Range.{Range}
use Rattle.stream.specs.Stream.{Show, range, Past, is_whole, unless_broken, judge, block_offset, body_with, released_with, block_question, accept_block, judge_next_line, rules}
use Rattle.stream.specs.Stream as C
use Rattle.stream.specs.Terms.{Terms}
use Rattle.stream.proofs.MessageLaws.{message_length}
use Rattle.stream.proofs.RulesHold.{rules_hold}
use Rattle.stream.proofs.Sound.{SoundBlock}
use Rattle.stream.proofs.SoundJudge.{SoundSays, judge_sound}
use Rattle.state.specs.Configuration.{Configuration, on, lined}
use Rattle.line_steps.specs.NextLine.{offset_now, next_judged, hash_now, body_now, message_now, next_answered, next_gathered, push_next_line}
use Rattle.line_steps.specs.NextLine as Line
use Rattle.state.specs.declared.phase.Phase.TheVariants as P
use Rattle.state.specs.declared.reader.Reader.{Reader}
use Rattle.state.specs.declared.word.Word.TheVariants as W
use Rattle.agreement.specs.Run.{word_seen}
use Rattle.agreement.proofs.Stands.{Gathered, Keeps, Lent, Under, Follows}
use Rattle.agreement.proofs.Stands as F
use Rattle.agreement.proofs.Gathering.{gather, short, at_most, still, under_on}
use Rattle.agreement.proofs.Refusals.{refuses, line_number}

-- ---- places

-- the places of blocks within the body's limit are far below the largest number
pub offset_now_lem : (r : Reader) (s : Show) (p : Past) (n : ℕ) {room : List ℕ} → Keeps r.fixed room s → r.chain.number.0 ≡ p.blocks → SoundBlock s p n → (offset_now r).0 ≡ block_offset s p
unfolding offset_at
offset_now_lem r s p n k e h = rw (k.size, e) (omega (arith, h.body))

pub body_now_lem : (r : Reader) (s : Show) (p : Past) (b : List ℕ) (n : ℕ) {room : List ℕ} → length b ≡ n → Keeps r.fixed room s → r.chain.number.0 ≡ p.blocks → SoundBlock s p (length b)
    → Line.body_with r n ≡ body_with s p b
unfolding Line.body_with
body_now_lem r s p b n c k e h = rw (← c, offset_now_lem r s p (length b) k e h) (omega (arith, h.body))

pub released_now : (r : Reader) (s : Show) (p : Past) (b : List ℕ) (n : ℕ) {room : List ℕ} → length b ≡ n → Keeps r.fixed room s → r.chain.number.0 ≡ p.blocks → SoundBlock s p (length b)
    → Line.released_with r n ≡ released_with s p b
unfolding Line.released_with released_with
released_now r s p b n c k e h = rw (body_now_lem r s p b n c k e h, k.extent)

-- ---- a message at the front of a buffer

pub front_fits : (m q : List ℕ) → length m ≤ length q → message_written m q ≡ written (length m) (m ++ drop (length m) q)
unfolding message_written at_front
front_fits m q h = rw (le-leb (length m) (length q) h)

pub front_length : (m q : List ℕ) → length m ≤ length q → length (m ++ drop (length m) q) ≡ length q
front_length m q h = rw (length-append, length-drop) (omega arith)

-- a line on which a signature is due, and that is good, carries one
carries : (N : ℕ) (r : Range) (full : Bool) (sofar : ℕ) (l : List ℕ) → line_fault N r true full sofar l ≡ 0 → carries_signature l ≡ true
unfolding line_fault line_rules
carries N r full sofar l e = (rules_hold (line_rules N r true full sofar l) refl e).1.0

module _ (terms : Terms) (fields : List Field) (d : Configuration) (x : ℕ) (lent : Lent d fields) (none : d.reader.released ≡ 0)
    (s : Show) (p : Past) (size : ℕ) (b : List ℕ) (u : Under d s p size b) (have : ℕ) (g : List ℕ) where
  abbrev l : List ℕ
  l = g ++ x ∷ []

  abbrev d' : Configuration
  d' = lined d (P.NextLine (have + 1) size) (set d.reader.line have x)

  abbrev message : List ℕ
  message = block_message s.id (block_offset s p) (chained p.hash b)

  lent' : Lent d' fields
  lent' = still lent _ refl refl refl refl (length-set d.reader.line have x)

  fits : length message ≤ length d.question
  fits =
      let o : block_offset s p ≤ body_limit = omega (arith, u.sound.body) in
      omega (arith, lent.question, message_length s.id (block_offset s p) p.hash b u.sound.show.short_id o)

  hash_is : hash_now d' size ≡ chained p.hash b
  hash_is = rw (u.counts.hash, u.bytes.bytes)

  body_is : Holds (body_now d' size) (p.body ++ b)
  body_is = rw u.bytes.bytes (added_holds p.body b u.counts.body)

  offset_is : (offset_now d'.reader).0 ≡ block_offset s p
  offset_is = offset_now_lem d'.reader s p (length b) u.keeps u.counts.blocks u.sound

  pub message_is : message_now d' size ≡ written (length message) (message ++ drop (length message) d.question)
  unfolding message_now
  message_is = rw (hash_is, offset_is, u.keeps.id) (front_fits message d.question fits)

  -- the question as it is seen is the reading's
  seen-is : carries_signature l ≡ true → (e : Configuration) → e.question ≡ (message_now d' size).bytes
      → word_seen (W.Question (message_now d' size).count d'.reader.fixed.key) (carried_by l) e ≡ event (question (block_question s p b l))
  unfolding word_seen block_question
  seen-is c e q =
      let m : take (message_now d' size).count e.question ≡ message =
      rw (q, message_is) (take-append_seam message (drop (length message) d.question)) in
      let z : leb (message_now d' size).count (length e.question) ≡ true =
      rw (q, message_is, front_length message d.question fits) (le-leb (length message) (length d.question) fits) in
      let t : carried_by l ≡ line_signature l = rw c refl in
      let n : d'.reader.fixed.key ≡ s.key_number = u.keeps.key in
      rw z (λ i. event (question (record { message = m i; signature = t i; key_number = n i })))

  question_follows : line_fault s.size (range s) true (eqb (length b) s.size) (body_with s p b) l ≡ 0 → SoundSays (accept_block s p b l)
      → Follows terms fields (Line.asked d' size (chunk_size l) (carried_by l)) (ruling (accept_block s p b l))
  unfolding Line.asked accept_block
  question_follows e h =
      F.says (seen-is (carries s.size (range s) (eqb (length b) s.size) (body_with s p b) l e) _ refl) refl
      (record {
        stands =
            F.block_asked
            (record {
              keeps = u.keeps;
              blocks = u.counts.blocks;
              hash = hash_is;
              body = body_is;
              sound = u.sound;
              onward = h.1.1;
              bytes = u.bytes;
              taken = none;
            });
        lent = still lent' _ refl refl refl (rw message_is (front_length message d.question fits)) refl;
        taken = none;
      })

  answered : (fault : ℕ) → line_fault s.size (range s) true (eqb (length b) s.size) (body_with s p b) l ≡ fault
      → SoundSays (unless_broken fault (line_place l) (accept_block s p b l))
      → Follows terms fields
      (next_answered d' size (unless_fault fault l (good_line (chunk_size l) (carried_by l))))
      (ruling (unless_broken fault (line_place l) (accept_block s p b l)))
  unfolding next_answered
  answered zero e h = question_follows e h
  answered (suc n) e h = refuses _ size d' (line_number s.size (range s) true (eqb (length b) s.size) (body_with s p b) l n e) lent' none

  pub judged_is : next_judged d'.reader size l ≡ line_judged s.size (range s) true (eqb (length b) s.size) (body_with s p b) l
  unfolding next_judged
  judged_is =
      let e : Line.body_with d'.reader size ≡ body_with s p b =
      body_now_lem d'.reader s p b size u.bytes.count u.keeps u.counts.blocks u.sound in
      let n : size ≡ length b = sym u.bytes.count in
      λ i. line_judged (u.keeps.size i) (u.keeps.extent i) true (eqb (n i) (u.keeps.size i)) (e i) l

  by : (t : Bool) → is_whole (C.next_line s p b) l ≡ t → length l ≤ line_limit → Gathered (set d.reader.line have x) (have + 1) l
      → Follows terms fields
      (pick t (next_answered d' size (next_judged d'.reader size l)) (on d'))
      (gathered (rules terms) t (C.next_line s p b) l)
  unfolding rules judge judge_next_line line_judged
  by true e m a =
      rw judged_is
      (answered (line_fault s.size (range s) true (eqb (length b) s.size) (body_with s p b) l) refl (judge_sound terms (C.next_line s p b) l u.sound e m))
  by false e m a = F.on (record { stands = F.next_line (under_on _ _ _ refl refl refl u) a e; lent = lent'; taken = none })

  pub next_step : Gathered d.reader.line have g → is_whole (C.next_line s p b) g ≡ false
      → Follows terms fields (push_next_line d have size x) (step (rules terms) (C.next_line s p b) g x)
  unfolding push_next_line next_gathered step rules is_whole
  next_step a e =
      let m : have < line_limit = rw a.count at (short (C.next_line s p b) g e) in
      let c = gather d.reader.line g have x a (rw lent.line m) in
      rw (lt-leb line_limit have m, c.bytes) (by (is_whole_line l) refl (at_most (C.next_line s p b) g x e) c)
