-- WHAT *COMPLETE* MEANS: the size and the SHA-256 of the bytes released are those that the last yes was about. Assumes nothing.
use mathlib.Core.Bool.{Bool, true, true≢false}
use mathlib.Core.List.{List, [], ◌∷◌, ◌++◌, append_assoc, append-nil}
use mathlib.Core.Path.{◌≡◌, refl, sym, ap, ◌∙◌}
use Prim.Native.Nat.{ℕ, suc}
use borrow.Author.Tests.{eqb-true}
use lib.ListN.{length, replicate}
use Rattle.octets.specs.Octets.{octets}
use Rattle.sections.specs.Calls.{Call}
use Rattle.sections.specs.Reading.{question, message, last, Log}
use Rattle.sections.specs.Resuming.{events, end_heard}
use Rattle.sha256.specs.Sha256.{sha256}
use Rattle.stream.specs.Bytes.{lowered}
use Rattle.stream.specs.Ends.{Ends, all_fields, is_digest, digest_bytes, is_data_size, ends_in, digest_name, data_size_name, end_rules, end_string}
use Rattle.stream.specs.Events.{Question, Release, block, LastWord, complete}
use Rattle.stream.specs.Head.{Head, status_digits, listed_names}
use Rattle.stream.specs.Lines.{Field}
use Rattle.stream.specs.Numbers.{decimal_value}
use Rattle.stream.specs.Ring.{Ring}
use Rattle.stream.specs.Signatures.{created_text, listed_fields, response_status_name, created_name}
use Rattle.stream.specs.Signing.{separated, joined_fields, signing_line, signing_text}
use Rattle.stream.specs.Stream.{plain_reading}
use Rattle.stream.specs.Terms.{Terms}
use Rattle.stream.proofs.Truth.{same_equal}
use Rattle.exactness.specs.Beginning.{Beginning, opening, onward, written, head_in, announces, blocks, body, offset, questions}
use Rattle.exactness.specs.Good.{Good, GoodTrailer, claims, GoodClaim, GoodEnd, unclaimed, well_claimed}
use Rattle.exactness.specs.Telling.{head_asks, block_asks, end_asks, Stands, log_of, whole_yeses, released}
use Rattle.exactness.proofs.Completeness.{completeness, released_body}
use Rattle.exactness.proofs.Forward.{one_yes}
use Rattle.closing.specs.Complete.{yeses_in, MeansComplete}
use Rattle.closing.proofs.Closing.{good_due, due_ended}
use Rattle.closing.proofs.Runs.{outs, took, heard, reads}

-- ---- what a good claim says

module _ (h : Head) (body t : List ℕ) (g : GoodClaim h body t) where
  abbrev ends : Ends
  ends = ends_in (all_fields h t)

  digest_good : is_digest ends.digest ≡ true
  unfolding end_rules
  digest_good = let k = g.kept in k.1.1.1.0

  size_good_lem : is_data_size ends.data_size ≡ true
  unfolding end_rules
  size_good_lem = let k = g.kept in k.1.1.1.1.0

  size_same : decimal_value ends.data_size ≡ length body
  unfolding end_rules
  size_same = let k = g.kept in eqb-true _ _ k.1.1.1.1.1.1.1.1.1.0

  hash_same : digest_bytes ends.digest ≡ sha256 body
  unfolding end_rules
  hash_same = let k = g.kept in same_equal _ _ k.1.1.1.1.1.1.1.1.1.1.0

-- ---- the message's last two lines

two_lines : (f : Field) (es : List Field) (g k : Field)
    → signing_text (f ∷ (es ++ g ∷ k ∷ [])) ≡ signing_text (f ∷ es) ++ ((10 ∷ signing_line g) ++ (10 ∷ signing_line k))
unfolding signing_text separated
two_lines f [] g k = refl
two_lines f (e ∷ es) g k =
    ap (λ (t : List ℕ). signing_line f ++ 10 ∷ t) (two_lines e es g k)
    ∙ sym (append_assoc (signing_line f) (10 ∷ signing_text (e ∷ es)) ((10 ∷ signing_line g) ++ (10 ∷ signing_line k)))

module _ (h : Head) (e : Ends) where
  abbrev front : List Field
  front =
      record { name = response_status_name; value = status_digits h }
      ∷ record { name = created_name; value = created_text e.sig1 }
      ∷ joined_fields h.fields (listed_fields (listed_names h))

  abbrev digest_field : Field
  digest_field = record { name = digest_name; value = e.digest }

  abbrev size_field : Field
  size_field = record { name = data_size_name; value = e.data_size }

  ends_so : signing_text front ++ (octets "\ndigest: " ++ (e.digest ++ (octets "\nx-ouinet-data-size: " ++ e.data_size))) ≡ end_string h e
  unfolding end_string signing_line lowered
  ends_so = sym (two_lines _ _ digest_field size_field)

-- ---- the events

-- the first is the head's question
record FirstAsked (ring : Ring) (w : Beginning) : Type 0 where
  place : ℕ
  later : Log Question Release LastWord
  joined : (place, question (head_asks ring (head_in w))) ∷ later ≡ log_of ring w

first_asked : (ring : Ring) (w : Beginning) → FirstAsked ring w
unfolding log_of head_in
first_asked ring (opening h l) = record { place = length h; later = _; joined = refl }
first_asked ring (onward w b l) =
    let f = first_asked ring w in
    let at : ℕ = length (written (onward w b l)) in
    let two : Log Question Release LastWord = (at, question (block_asks ring w b l)) ∷ (at, message (block (offset w) b)) ∷ [] in
    record { place = f.place; later = f.later ++ two; joined = ap (λ (x : Log Question Release LastWord). x ++ two) f.joined }

yeses_first : (ring : Ring) (w : Beginning) (log : Log Question Release LastWord) → yeses_in (log_of ring w ++ log) ≡ replicate (questions w) true ++ yeses_in log
unfolding log_of yeses_in blocks
yeses_first ring (opening h l) log = refl
yeses_first ring (onward w b l) log =
    rw (append_assoc (log_of ring w), one_yes (questions w) (yeses_in log)) (yeses_first ring w _)

the_claim : {h : Head} {body t : List ℕ} → GoodEnd h body t → claims h t ≡ true → GoodClaim h body t
the_claim (well_claimed c) e = c
the_claim (unclaimed c) e = absurd (true≢false (sym e ∙ c))

module _ (terms : Terms) where
  module _ (w : Beginning) (t : List ℕ) (g : GoodClaim (head_in w) (body w) t) where
    -- the last two
    abbrev last_two : Log Question Release LastWord
    last_two =
        (length (written w ++ t), question (end_asks terms.ring (head_in w) t)) ∷ (length (written w ++ t), last (complete (length (body w)))) ∷ []

    all_released : released (log_of terms.ring w ++ last_two) ≡ body w
    all_released = rw g.claimed at (released_body terms w t)

    all_yeses : yeses_in (log_of terms.ring w ++ last_two) ≡ replicate (suc (questions w)) true
    unfolding yeses_in
    all_yeses = yeses_first terms.ring w last_two ∙ sym (one_yes (questions w) []) ∙ append-nil (replicate (suc (questions w)) true)

    claim_means : (others : List Bool)
        → MeansComplete (replicate (suc (questions w)) true ++ others) (log_of terms.ring w ++ last_two) (length (written w ++ t)) (length (body w))
    unfolding head_asks end_asks
    claim_means others =
        let f = first_asked terms.ring w in
        let e = all_released in
        record {
          digest = (ends_in (all_fields (head_in w) t)).digest;
          data_size = (ends_in (all_fields (head_in w) t)).data_size;
          digest_text = digest_good (head_in w) (body w) t g;
          size_text = size_good_lem (head_in w) (body w) t g;
          total_released = ap length e;
          same_size = size_same (head_in w) (body w) t g ∙ sym (ap length e);
          same_hash = hash_same (head_in w) (body w) t g ∙ sym (ap sha256 e);
          head_at = f.place;
          head_question = head_asks terms.ring (head_in w);
          between = f.later;
          end_question = end_asks terms.ring (head_in w) t;
          joined = ap (λ (x : Log Question Release LastWord). x ++ last_two) f.joined;
          others = others;
          granted = ap (λ (x : List Bool). x ++ others) all_yeses;
          first_lines = signing_text (front (head_in w) (ends_in (all_fields (head_in w) t)));
          last_lines = ends_so (head_in w) (ends_in (all_fields (head_in w) t));
          same_key = refl;
        }

  ended_means : (w : Beginning) (t r : List ℕ) (others : List Bool) (S : List ℕ) (answers : List Bool) (told : Bool) (at total : ℕ)
      → Good terms w → announces w ≡ 0 → GoodTrailer t → GoodClaim (head_in w) (body w) t → written w ++ t ++ r ≡ S → length (written w ++ t) ≡ at
      → length (body w) ≡ total → replicate (whole_yeses w t) true ++ others ≡ answers → MeansComplete answers (plain_reading terms S answers told) at total
  ended_means w t r others S answers told at total g z k c stream place size yeses =
      rw (← stream, ← place, ← size, ← yeses, completeness terms w t r others told g z k (well_claimed c), c.claimed) (claim_means w t c others)

  -- WHEREVER *COMPLETE* STANDS it means this.
  pub complete_means : (S : List ℕ) (answers : List Bool) (told : Bool) (at total : ℕ)
      → Stands (at, last (complete total)) (plain_reading terms S answers told) → MeansComplete answers (plain_reading terms S answers told) at total
  complete_means S answers told at total s =
      let d = good_due terms true S answers told at total s in
      let o = due_ended terms true S answers at total d in
      ended_means o.beginning o.trailer d.rest d.others S answers told at total o.good o.zero o.good_trailer
      (the_claim o.good_end o.claim) (rw o.stream d.stream) (rw o.stream d.place) o.size (rw (← o.needs) d.granted)

  -- and so in a run, however the stream is cut.
  pub run_complete_means : (ks : List Call) (at total : ℕ) → Stands (at, last (complete total)) (events (outs terms ks))
      → MeansComplete (heard terms ks) (events (outs terms ks)) at total
  run_complete_means ks at total s =
      rw (reads terms ks)
      (complete_means (took terms ks) (heard terms ks) (end_heard ks (outs terms ks)) at total (rw (reads terms ks) at s))
