-- Where a rule is broken the plain reading refuses with its number; and it refuses with 11 where a stream is unfinished and its
-- end was told. Assumes nothing.
use mathlib.Core.Bool.{Bool, true, false}
use mathlib.Core.List.{List, [], ◌∷◌, ◌++◌, append_assoc}
use mathlib.Core.Path.{◌≡◌, refl, sym, ◌∙◌}
use Prim.Native.Nat.{ℕ, suc, ◌+◌, ◌<◌}
use native.Mathlib.Omega.{arith}
use borrow.Author.Tests.{le-leb, lt-leb}
use lib.Dec.{eqb, leb}
use lib.ListN.{length, take, replicate, length-append}
use lib.Seq.{length-take-le}
use Rattle.sha256.specs.Sha256.{sha256}
use Rattle.sections.specs.Reading.{last, reading_at, reading}
use Rattle.stream.specs.Blocks.{is_whole_line, line_fault}
use Rattle.stream.specs.Bytes.{same}
use Rattle.stream.specs.Ends.{all_fields, end_rules, end_fault}
use Rattle.stream.specs.Events.{refused, place_of}
use Rattle.stream.specs.Head.{ends_head, is_whole_head, head_of, head_fault}
use Rattle.stream.specs.Limits.{head_limit, line_limit}
use Rattle.stream.specs.Lines.{crlf, ends_with}
use Rattle.stream.specs.Places.{head_place, line_place, data_end_place, trailer_place}
use Rattle.stream.specs.Range.{first_byte}
use Rattle.stream.specs.Rule.{first_broken}
use Rattle.stream.specs.Stream.{Show, range, Past, head, first_line, data_end, next_line, trailer, is_whole, show_of, body_with, judge_head, judge_first_line, judge_data_end, judge_next_line, judge_end, judge_trailer, judge, rules, plain_reading}
use Rattle.stream.specs.Terms.{Terms}
use Rattle.stream.specs.Trailer.{ends_trailer, is_whole_trailer, is_trailer}
use Rattle.stream.proofs.Truth.{same_equal}
use Rattle.exactness.specs.Beginning.{Beginning, onward, written, head_in, announces, body, questions}
use Rattle.exactness.specs.Good.{Good, GoodTrailer, claims}
use Rattle.exactness.specs.Refusals.{Whole, Refuses, head_refused, first_line_refused, next_line_refused, data_end_refused, trailer_refused, end_refused}
use Rattle.exactness.specs.Telling.{StreamEvent, Stands, log_of}
use Rattle.exactness.proofs.Forward.{past_of, body_with_lem, place_is, reading_ended}
use Rattle.exactness.proofs.Judged.{onward_rest, no_place_left}
use Rattle.exactness.proofs.Stops.{Telling, head_log, stop_step, head_then, line_then, block_then, end_then}
use Rattle.exactness.proofs.WentWrong.{head_only, line_only, data_end_only, trailer_only}
use Rattle.exactness.proofs.Wholes.{whole_true, whole_none, whole_some}

module _ (terms : Terms) where
  -- the last event of a list
  pub stands_last : {e : StreamEvent} (log before : Telling terms) (at here : ℕ) → log ≡ before ++ (here, e) ∷ [] → here ≡ at → Stands (at, e) log
  stands_last log before at here l p = record { before = before; after = []; joined = rw (← p) (sym l) }

  -- ---- each kind of section that is refused

  head_stop : (h r : List ℕ) (answers : List Bool) (told : Bool) (n : ℕ) → Whole ends_head head_limit h → head_fault terms h ≡ suc n
      → reading_at (rules terms) head 0 (h ++ r) answers told ≡ (0 + length h, last (refused (suc n) (place_of (suc n) (head_place h)))) ∷ []
  unfolding is_whole is_whole_head judge judge_head ends_head ends_with same
  head_stop h r answers told n k e =
      stop_step terms head 0 h r answers told (suc n) _ (whole_some ends_head head_limit h refl (omega arith) k) (whole_true ends_head head_limit h k)
      (whole_none ends_head head_limit h k) (rw e)

  first_stop : (s : Show) (at : ℕ) (l r : List ℕ) (answers : List Bool) (told : Bool) (n : ℕ) → Whole (ends_with crlf) line_limit l
      → line_fault s.size (range s) false true (first_byte (range s)) l ≡ suc n
      → reading_at (rules terms) (first_line s) at (l ++ r) answers told ≡ (at + length l, last (refused (suc n) (place_of (suc n) (line_place l)))) ∷ []
  unfolding is_whole is_whole_line judge judge_first_line ends_with same
  first_stop s at l r answers told n k e =
      stop_step terms (first_line s) at l r answers told (suc n) _ (whole_some (ends_with crlf) line_limit l refl (omega arith) k)
      (whole_true (ends_with crlf) line_limit l k) (whole_none (ends_with crlf) line_limit l k) (rw e)

  next_stop : (s : Show) (p : Past) (b : List ℕ) (at : ℕ) (l r : List ℕ) (answers : List Bool) (told : Bool) (n : ℕ) → Whole (ends_with crlf) line_limit l
      → line_fault s.size (range s) true (eqb (length b) s.size) (body_with s p b) l ≡ suc n
      → reading_at (rules terms) (next_line s p b) at (l ++ r) answers told ≡ (at + length l, last (refused (suc n) (place_of (suc n) (line_place l)))) ∷ []
  unfolding is_whole is_whole_line judge judge_next_line ends_with same
  next_stop s p b at l r answers told n k e =
      stop_step terms (next_line s p b) at l r answers told (suc n) _ (whole_some (ends_with crlf) line_limit l refl (omega arith) k)
      (whole_true (ends_with crlf) line_limit l k) (whole_none (ends_with crlf) line_limit l k) (rw e)

  end_stop : (s : Show) (p : Past) (b : List ℕ) (at : ℕ) (f r : List ℕ) (answers : List Bool) (told : Bool) → length f ≡ 2 → (f ≡ crlf → ⊥)
      → reading_at (rules terms) (data_end s p b) at (f ++ r) answers told ≡ (at + length f, last (refused 6 (data_end_place f))) ∷ []
  unfolding is_whole judge judge_data_end
  end_stop s p b at f r answers told l o =
      stop_step terms (data_end s p b) at f r answers told 6 _ (omega arith) (le-leb 2 (length f) (omega arith)) none
      (rw (unlike (same f crlf) refl, judge_data_end))
    where
      none : (m : ℕ) → 0 < m → m < length f → leb 2 (length (take m f)) ≡ false
      none m x y =
          let k : length (take m f) ≡ m = length-take-le m f (omega arith) in
          lt-leb 2 (length (take m f)) (omega arith)

      unlike : (t : Bool) → same f crlf ≡ t → t ≡ false
      unlike true e = absurd (o (same_equal f crlf e))
      unlike false e = refl

  trailer_stop : (s : Show) (p : Past) (total at : ℕ) (t r : List ℕ) (answers : List Bool) (told : Bool) → Whole ends_trailer head_limit t → is_trailer t ≡ false
      → reading_at (rules terms) (trailer s p total) at (t ++ r) answers told ≡ (at + length t, last (refused 6 (trailer_place t))) ∷ []
  unfolding is_whole is_whole_trailer judge judge_trailer ends_trailer ends_with same
  trailer_stop s p total at t r answers told k e =
      stop_step terms (trailer s p total) at t r answers told 6 _ (whole_some ends_trailer head_limit t refl (omega arith) k)
      (whole_true ends_trailer head_limit t k) (whole_none ends_trailer head_limit t k) (rw (e, judge_trailer))

  -- a claimed end that breaks a rule
  reading_broken : (w : Beginning) (t r : List ℕ) (answers : List Bool) (told : Bool) (n : ℕ) → Good terms w → announces w ≡ 0 → GoodTrailer t
      → claims (head_in w) t ≡ true → first_broken (end_rules (head_in w) (all_fields (head_in w) t) (length (body w)) (sha256 (body w))) ≡ suc n
      → plain_reading terms (written w ++ t ++ r) (replicate (questions w) true ++ answers) told
      ≡ log_of terms.ring w ++ (length (written w ++ t), last (refused (suc n) 0)) ∷ []
  unfolding judge_end show_of end_fault
  reading_broken w t r answers told n g z k c e = reading_ended terms w t r answers told g z k ∙ rw (judge_end, c, e, no_place_left (suc n))

  -- ---- all of them

  pub refuses_stands : (front rest : List ℕ) (yeses : ℕ) (others : List Bool) (told : Bool) (n place : ℕ) → Refuses terms front yeses n place
      → Stands (length front, last (refused n place)) (plain_reading terms (front ++ rest) (replicate yeses true ++ others) told)
  unfolding plain_reading reading head_fault line_fault show_of
  refuses_stands front rest yeses others told n place (head_refused {h = h} {n = m} k e x) =
      rw (head_only h (suc m) place x)
      (stands_last _ [] (length h) (0 + length h) (head_stop h rest others told m k e) (omega arith))
  refuses_stands front rest yeses others told n place (first_line_refused {h = h} {l = l} {n = m} g k e x) =
      rw (append_assoc h l rest, line_only l (suc m) place x)
      (stands_last _ (head_log terms h) (length (h ++ l)) (length h + length l)
      (head_then terms h (l ++ rest) others told _ g (first_stop (show_of terms.ring (head_of h)) (length h) l rest others told m k e))
      (sym (length-append h l)))
  refuses_stands front rest yeses others told n place (next_line_refused {w = w} {b = b} {l = l} {n = m} g a k e x) =
      rw (onward_rest w b l rest, line_only l (suc m) place x)
      (stands_last _ (log_of terms.ring w) (length (written (onward w b l))) (length (written w) + length b + 2 + length l)
      (end_then terms w b (l ++ rest) others told _ g a
      (next_stop (show_of terms.ring (head_in w)) (past_of w) b (length (written w) + length b + 2) l rest others told m k (rw (body_with_lem w g b a) e)))
      (place_is w b l))
  refuses_stands front rest yeses others told n place (data_end_refused {w = w} {b = b} {e = f} g a l o x) =
      rw (append_assoc (written w ++ b) f rest, data_end_only f place x)
      (stands_last _ (log_of terms.ring w) (length (written w ++ b ++ f)) (length (written w) + length b + length f)
      (block_then terms w b (f ++ rest) others told _ g a
      (end_stop (show_of terms.ring (head_in w)) (past_of w) b (length (written w) + length b) f rest others told l o))
      (omega (arith, length-append (written w ++ b) f, length-append (written w) b)))
  refuses_stands front rest yeses others told n place (trailer_refused {w = w} {t = t} g z k e x) =
      rw (append_assoc (written w) t rest, trailer_only t place x)
      (stands_last _ (log_of terms.ring w) (length (written w ++ t)) (length (written w) + length t)
      (line_then terms w (t ++ rest) others told _ g (rw z (trailer_stop (show_of terms.ring (head_in w)) (past_of w) (length (body w)) (length (written w)) t rest others told k e)))
      (sym (length-append (written w) t)))
  refuses_stands front rest yeses others told n place (end_refused {w = w} {t = t} {n = m} g z k c e) =
      stands_last _ (log_of terms.ring w) (length (written w ++ t)) (length (written w ++ t)) (reading_broken w t rest others told m g z k c e) refl
