-- One call: the reader's `feed`, `answer` and `end` follow a turn of the machine. Assumes nothing.
use mathlib.Core.Path.{◌≡◌, refl, sym, ◌∙◌}
use mathlib.Core.Bool.{Bool, true, false, true≢false}
use mathlib.Core.List.{List, []}
use Prim.Native.Nat.{ℕ, suc, ◌+◌, ◌≤◌, min}
use native.Mathlib.Nat.{zero-add, le-mul_of_pos_right}
use native.Mathlib.Omega.{arith}
use borrow.Author.Tests.{ne_eqb, le-leb}
use lib.ListN.{length, length-take}
use Rattle.octets.specs.Choice.{pick}
use Rattle.blocks.specs.Place.{largest}
use Rattle.sections.specs.Reading.{Event, question, message, last, final}
use Rattle.sections.specs.Calls.{Request, feed, answer, end, more, event}
use Rattle.sections.specs.Machine.{running, asked, finished, Turn, respond}
use Rattle.refusals.specs.Refusals.{plain}
use Rattle.refusals.specs.declared.Refusal.{Refusal}
use Rattle.stream.specs.Events.{Question, Release, head_accepted, block, LastWord}
use Rattle.stream.specs.Events as E
use Rattle.stream.specs.Head.{head_of, status_digits, signed_of}
use Rattle.stream.specs.Limits.{head_limit, block_limit}
use Rattle.stream.specs.Lines.{Field}
use Rattle.stream.specs.Numbers.{decimal_value}
use Rattle.stream.specs.Stream.{Show, Past, after, Context, rules, block_offset, released_with, show_of}
use Rattle.stream.specs.Stream as C
use Rattle.stream.specs.Terms.{Terms}
use Rattle.stream.proofs.Sound.{not_whole_empty}
use Rattle.stream.proofs.SigningSize.{head_text_kept}
use Rattle.handing.specs.Handing.{accepted_head}
use Rattle.handing.proofs.ValueLaws.{handed_signed}
use Rattle.state.specs.Configuration.{Configuration, configuration, pending, refuse}
use Rattle.line_steps.specs.NextLine as Line
use Rattle.state.specs.Run.{Fed}
use Rattle.state.specs.declared.phase.Phase.{Phase}
use Rattle.state.proofs.BufferLaws.{length_cleared}
use Rattle.calls.specs.Response.{given, is_reading, unchanged, recalled}
use Rattle.reader.specs.Feed.{fed, taken_from}
use Rattle.calls.specs.Answer.{accepting, answer_at, block_answer, end_answer, followed, following, head_answer, releasing}
use Rattle.handing.specs.Released.{block_part}
use Rattle.agreement.specs.Observation as Shown
use Rattle.agreement.specs.Plain.{values_in, block_left, Handed, handed_after}
use Rattle.agreement.specs.Run.{word_seen}
use Rattle.agreement.proofs.Stands.{Lies, Counts, Lent, Standing, At, HeadAsked, BlockAsked, EndAsked, Reads, is_release}
use Rattle.agreement.proofs.Stands as F
use Rattle.agreement.proofs.Gathering.{none_gathered, still}
use Rattle.agreement.proofs.Refusals.{seen_final}
use Rattle.agreement.proofs.LineSteps.{announced_by}
use Rattle.agreement.proofs.NextSteps.{offset_now_lem, released_now}
use Rattle.agreement.proofs.Bytes.{FedAs, piece_follows}
use Rattle.agreement.proofs.Bytes as B
use Rattle.agreement.proofs.Holds.{Holds, CallFollows, part_is, follows, unchanged_follows, reading_phase, asked_phase, finished_phase, stands_back}

-- while bytes are taken no block is handed out
quiet_holds : {terms : Terms} {fields : List Field} {d : Configuration} {s : Standing} → Reads terms fields d s → Holds terms d (record { released = []; signed = fields }) s
quiet_holds r = record { stands = r.stands; lent = r.lent; block = rw r.taken refl }

module _ (terms : Terms) (h : Handed) where
  -- ---- a feed

  event_holds : {d : Configuration} {s : Standing} (piece : List ℕ) (e : Event Question Release LastWord) → is_release e ≡ false → Reads terms h.signed d s
      → Holds terms d (handed_after h (feed piece) (event e)) s
  event_holds piece (question q) z r = quiet_holds r
  event_holds piece (message e) z r = absurd (true≢false z)
  event_holds piece (last l) z r = quiet_holds r

  fed_follows : {f : Fed} {t : Turn Context Question Release LastWord} (piece : List ℕ) → FedAs terms h.signed 0 f t
      → CallFollows terms h (feed piece) (fed f) t
  unfolding word_seen
  fed_follows piece (B.all {n} e r) = follows _ more n _ (quiet_holds r) refl (e ∙ zero-add n)
  fed_follows piece (B.up_to {e = x} {n} e w z r) = follows _ (event x) n _ (event_holds piece x z r) w (e ∙ zero-add n)

  pub feed_follows : (d : Configuration) (s : Standing) (piece : List ℕ) → Holds terms d h s
      → CallFollows terms h (feed piece) (pick (is_reading d.reader.phase) (taken_from terms (recalled d) piece) (unchanged 1 d)) (respond (rules terms) s (feed piece))
  unfolding taken_from respond
  feed_follows d (running c g) piece k =
      rw (reading_phase k.stands)
      (fed_follows piece
      (piece_follows terms h.signed piece 0 (recalled d)
      (record { stands = stands_back k.stands; lent = still k.lent _ refl refl refl refl refl; taken = refl })))
  feed_follows d (asked y) piece k = rw (asked_phase k.stands) (unchanged_follows 1 d (asked y) refl k)
  feed_follows d finished piece k = rw (finished_phase k.stands) (unchanged_follows 1 d finished refl k)

  -- ---- the end

  -- a refusal with no block handed out
  refused_follows : (r : Request) (why : Refusal) (count : ℕ) (d : Configuration) → 3 ≤ why.number → Lent d h.signed → d.reader.released ≡ 0 → block_left r h.released ≡ []
      → CallFollows terms h r (given 0 (refuse why count d)) ((event (last (E.refused why.number why.at)), 0), finished)
  unfolding refuse
  refused_follows r why count d m l z e =
      follows _ (event (last (E.refused why.number why.at))) 0 finished
      (record { stands = F.refused; lent = still l _ refl refl (length_cleared count d.block) refl refl; block = rw (z, e) refl })
      (seen_final why _ _ m) refl

  pub end_follows : (d : Configuration) (s : Standing) → Holds terms d h s
      → CallFollows terms h end (pick (is_reading d.reader.phase) (given 0 (refuse (plain 11) (pending d.reader.phase) (recalled d))) (unchanged 1 d)) (respond (rules terms) s end)
  unfolding respond rules
  end_follows d (running c g) k =
      rw (reading_phase k.stands)
      (refused_follows end (plain 11) (pending d.reader.phase) (recalled d) (omega arith) (still k.lent _ refl refl refl refl refl) refl refl)
  end_follows d (asked y) k = rw (asked_phase k.stands) (unchanged_follows 1 d (asked y) refl k)
  end_follows d finished k = rw (finished_phase k.stands) (unchanged_follows 1 d finished refl k)

  -- with no block handed out, nothing is
  none_out : {d : Configuration} {s : Standing} → Holds terms d h s → d.reader.released ≡ 0 → h.released ≡ []
  none_out k z = sym (rw z at k.block)

  -- ---- an answer to the head's question

  module _ (d : Configuration) (n : ℕ) (l : List ℕ) (lent : Lent d h.signed) (a : HeadAsked terms d n l) (none : h.released ≡ []) where
    within : n ≤ length d.head
    within = rw (← a.bytes.count, ← a.bytes.bytes, length-take) (omega arith)

    -- the head that was asked about lies where an accepted head does
    accepted_is : accepted_head d.head n ≡ l
    unfolding accepted_head
    accepted_is = rw (le-leb head_limit (length d.head) lent.head, le-leb n (length d.head) within) a.bytes.bytes

    lies : Lies d.head n (head_of l)
    lies = record { says = rw accepted_is; good = rw accepted_is (head_text_kept terms l a.good); short = rw accepted_is a.short }

    accepted_holds : Holds terms (configuration (accepting d.reader n) d.head d.block d.question) (record { released = h.released; signed = signed_of (head_of l) }) (running (C.first_line (show_of terms.ring (head_of l))) [])
    unfolding show_of
    accepted_holds =
        record {
          stands =
              F.first_line (record { id = a.keeps.id; size = a.keeps.size; extent = a.keeps.extent; key = a.keeps.key; head = lies }) a.sound a.none (none_gathered d.reader.line)
              (not_whole_empty (C.first_line (show_of terms.ring (head_of l))) a.sound);
          lent =
              record {
                head = lent.head;
                block = lent.block;
                question = lent.question;
                line = lent.line;
                handed = rw a.bytes.bytes at (handed_signed terms d.head n lent.head within (rw a.bytes.bytes a.good));
              };
          block = rw (a.taken, none) refl;
        }

    head_answer_follows : (good : Bool) → CallFollows terms h (answer good) (head_answer n d good) (respond (rules terms) (asked (F.head_grant terms d l)) (answer good))
    unfolding head_answer respond rules word_seen
    head_answer_follows true =
        let f = accepted_holds.lent.handed in
        follows _ (event (message (head_accepted (decimal_value (status_digits (head_of l))) (signed_of (head_of l))))) 0 _ accepted_holds
        (λ i. event (message (Shown.head_accepted (a.status i) (values_in (f i))))) refl
    head_answer_follows false = refused_follows (answer false) (plain 10) 0 d (omega arith) lent a.taken none

  -- ---- an answer to a block's question

  module _ (d : Configuration) (s : Show) (p : Past) (size next : ℕ) (b : List ℕ) (lent : Lent d h.signed) (a : BlockAsked terms d s p size next b) (none : h.released ≡ []) where
    counts : Counts (followed d.reader.chain) (after p b)
    unfolding releasing following
    counts =
        let i : d.reader.chain.number.0 ≡ p.blocks = a.blocks in
        let m : p.blocks ≤ block_offset s p = le-mul_of_pos_right p.blocks a.sound.show.some in
        let n : min (d.reader.chain.number.0 + 1) largest ≡ suc p.blocks = omega (arith, a.sound.body) in
        record { blocks = n; hash = rw (n, ne_eqb (suc p.blocks) 0 (λ e. omega arith)) a.hash; body = a.body }

    abbrev handed : Handed
    handed = record { released = b; signed = h.signed }

    released_holds : Holds terms (configuration (releasing d.reader size next) d.head d.block d.question) handed (running (C.announced s (after p b) (released_with s p b) next) [])
    unfolding releasing
    released_holds =
        let e : Line.released_with d.reader size ≡ released_with s p b = released_now d.reader s p b size a.bytes.count a.keeps a.blocks a.sound in
        record {
          stands = announced_by _ s (after p b) _ (released_with s p b) next e a.keeps counts a.onward;
          lent = still lent _ refl refl refl refl refl;
          block = a.bytes.bytes;
        }

    block_answer_follows : (good : Bool) → CallFollows terms h (answer good) (block_answer size next d good) (respond (rules terms) (asked (F.block_grant terms d s p next b)) (answer good))
    unfolding block_answer respond rules word_seen releasing
    block_answer_follows true =
        let m : min size block_limit ≡ size = omega (arith, a.bytes.count, a.sound.most, a.sound.show.most) in
        let o : (Line.offset_now d.reader).0 ≡ block_offset s p = offset_now_lem d.reader s p (length b) a.keeps a.blocks a.sound in
        let n : size ≡ length b = sym a.bytes.count in
        let t : block_part d.block size ≡ b = part_is d.block size lent.block ∙ a.bytes.bytes in
        rw m (follows _ (event (message (block (block_offset s p) b))) 0 _ released_holds (λ i. event (message (Shown.block (o i) (n i) (t i)))) refl)
    block_answer_follows false = refused_follows (answer false) (plain 10) size d (omega arith) lent a.taken none

  -- ---- an answer to the question about the end

  module _ (d : Configuration) (have total : ℕ) (lent : Lent d h.signed) (a : EndAsked terms d have) (none : h.released ≡ []) where
    end_answer_follows : (good : Bool) → CallFollows terms h (answer good) (end_answer have total d good) (respond (rules terms) (asked (final (E.complete total))) (answer good))
    unfolding end_answer respond rules word_seen
    end_answer_follows true =
        follows _ (event (last (E.complete total))) 0 finished
        (record { stands = F.complete; lent = still lent _ refl refl refl refl refl; block = rw (a.taken, none) refl })
        refl refl
    end_answer_follows false = refused_follows (answer false) (plain 10) have d (omega arith) lent a.taken none

  -- ---- any answer

  pub answer_follows : (d : Configuration) (p : Phase) (s : Standing) (good : Bool) → Holds terms d h s → At terms d p s
      → CallFollows terms h (answer good) (answer_at p d good) (respond (rules terms) s (answer good))
  unfolding answer_at respond
  answer_follows d p (asked y) good k (F.head_asked {n} {l} a) = head_answer_follows d n l k.lent a (none_out k a.taken) good
  answer_follows d p (asked y) good k (F.block_asked {size} {next} {b} {s} {p = q} a) = block_answer_follows d s q size next b k.lent a (none_out k a.taken) good
  answer_follows d p (asked y) good k (F.end_asked {have} {total} a) = end_answer_follows d have total k.lent a (none_out k a.taken) good
  answer_follows d p (running c g) good k (F.head early a e) = unchanged_follows 1 d _ refl k
  answer_follows d p (running c g) good k (F.first_line keeps sound none a e) = unchanged_follows 1 d _ refl k
  answer_follows d p (running c g) good k (F.block_data keeps counts sound a e) = unchanged_follows 1 d _ refl k
  answer_follows d p (running c g) good k (F.data_end u a e) = unchanged_follows 1 d _ refl k
  answer_follows d p (running c g) good k (F.next_line u a e) = unchanged_follows 1 d _ refl k
  answer_follows d p (running c g) good k (F.trailer keeps counts sound a e) = unchanged_follows 1 d _ refl k
  answer_follows d p finished good k F.closed = unchanged_follows 1 d _ refl k
  answer_follows d p finished good k F.complete = unchanged_follows 1 d _ refl k
  answer_follows d p finished good k F.refused = unchanged_follows 1 d _ refl k
