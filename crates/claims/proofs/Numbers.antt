-- EVERY REFUSAL of a run has a number of paper 01's table, or request #101's 13 to 15, or request #105's 16: 1 or 2 where a call is refused, another where the stream is;
-- and only 3 and 6 tell where the text went wrong. Assumes nothing.
use mathlib.Core.Path.{◌≡◌, refl, sym, ◌∙◌}
use mathlib.Core.Bool.{Bool, true, false, true≢false}
use mathlib.Core.List.{List, ◌++◌}
use Prim.Native.Nat.{ℕ, suc, ◌≤◌}
use native.Mathlib.Omega.{arith}
use lib.ListN.{length}
use Rattle.ring.specs.Keys.{terms_of}
use Rattle.ring.specs.declared.KeyRing.{KeyRing}
use Rattle.sections.specs.Reading.{question, message, last}
use Rattle.sections.specs.Calls.{misused}
use Rattle.sections.specs.Resuming.{events}
use Rattle.stream.specs.Blocks.{is_chunk_line, line_rules}
use Rattle.stream.specs.Ends.{end_rules}
use Rattle.stream.specs.Events.{closed, complete, refused}
use Rattle.stream.specs.GoodText.{is_good_head, is_good_trailer}
use Rattle.stream.specs.Head.{Head, ends_head, head_of, text_rules, caller_rules}
use Rattle.stream.specs.Limits.{head_limit, line_limit}
use Rattle.stream.specs.Lines.{crlf, ends_with, Field}
use Rattle.stream.specs.Range.{Range}
use Rattle.stream.specs.Rule.{first_broken}
use Rattle.stream.specs.Terms.{Terms}
use Rattle.stream.specs.Trailer.{ends_trailer}
use Rattle.stream.proofs.RulesHold.{broken_numbered}
use Rattle.agreement.specs.Run.{Invocation, plain_calls}
use Rattle.exactness.specs.Refusals.{Whole, ended as has_end, endless, Refuses, head_refused, first_line_refused, next_line_refused, data_end_refused, trailer_refused, end_refused}
use Rattle.exactness.specs.Telling.{StreamEvent, Decides, head_asked, head_told, block_asked, block_told, body_closed, end_asked, completed, rule_broken, Expected, on_time, denied, broken_off, Stands}
use Rattle.exactness.specs.WentWrong.{WentWrong, bad_text, other_cause, no_place}
use Rattle.claims.specs.Numbers.{is_of_stream, OfStreams, NumbersOfTheTable}
use Rattle.claims.specs.Runs.{words, taken, answers, ended}
use Rattle.claims.proofs.CallNumbers.{AllIn, one_in, trace_in}
use Rattle.claims.proofs.Demand3.{demand_3}
use Rattle.claims.proofs.Refused.{refused_exactly}

-- ---- refused streams

line_in : (N : ℕ) (r : Range) (due full : Bool) (sofar : ℕ) (l : List ℕ) (k : ℕ) → first_broken (line_rules N r due full sofar l) ≡ suc k → is_of_stream (suc k) ≡ true
unfolding line_rules
line_in N r due full sofar l k e = broken_numbered is_of_stream (line_rules N r due full sofar l) k refl e

end_in_lem : (h : Head) (fs : List Field) (total : ℕ) (hash : List ℕ) (k : ℕ) → first_broken (end_rules h fs total hash) ≡ suc k → is_of_stream (suc k) ≡ true
unfolding end_rules
end_in_lem h fs total hash k e = broken_numbered is_of_stream (end_rules h fs total hash) k refl e

module _ (terms : Terms) where
  head_in : (l : List ℕ) (k : ℕ) → first_broken (text_rules l (head_of l) ++ caller_rules terms (head_of l)) ≡ suc k → is_of_stream (suc k) ≡ true
  unfolding text_rules caller_rules
  head_in l k e = broken_numbered is_of_stream (text_rules l (head_of l) ++ caller_rules terms (head_of l)) k refl e

  -- the place of a section that is no longer than a head may be
  wrong_in : (ends good : List ℕ → Bool) (l : List ℕ) (n at : ℕ) → length l ≤ head_limit → is_of_stream n ≡ true → WentWrong ends good l n at → OfStreams n at
  wrong_in ends good l n at m b (bad_text h e g v) =
      record { number = b; none = λ x. absurd (true≢false (sym h ∙ x)); most = omega (arith, v.within) }
  wrong_in ends good l n at m b (other_cause h k) = record { number = b; none = λ x. absurd (true≢false (sym h ∙ x)); most = m }
  wrong_in ends good l n at m b (no_place h) = record { number = b; none = λ x. refl; most = omega arith }

  whole_most : (ends : List ℕ → Bool) (limit : ℕ) (l : List ℕ) → limit ≤ head_limit → Whole ends limit l → length l ≤ head_limit
  whole_most ends limit l m (has_end f s) = omega arith
  whole_most ends limit l m (endless e none) = omega arith

  line_most : (l : List ℕ) → Whole (ends_with crlf) line_limit l → length l ≤ head_limit
  line_most l w = whole_most (ends_with crlf) line_limit l (omega arith) w

  -- a refusal that tells no place
  plain_in : (n : ℕ) → is_of_stream n ≡ true → OfStreams n 0
  plain_in n b = record { number = b; none = λ x. refl; most = omega arith }

  refuses_in : (front : List ℕ) (yeses n at : ℕ) → Refuses terms front yeses n at → OfStreams n at
  refuses_in front yeses n at (head_refused {h} {n = k} w e x) = wrong_in ends_head is_good_head h (suc k) at (whole_most ends_head head_limit h (omega arith) w) (head_in h k e) x
  refuses_in front yeses n at (first_line_refused {l = l} {n = k} g w e x) = wrong_in (ends_with crlf) is_chunk_line l (suc k) at (line_most l w) (line_in _ _ false true _ l k e) x
  refuses_in front yeses n at (next_line_refused {l = l} {n = k} g a w e x) = wrong_in (ends_with crlf) is_chunk_line l (suc k) at (line_most l w) (line_in _ _ true _ _ l k e) x
  refuses_in front yeses n at (data_end_refused g a e o v) =
      record { number = refl; none = λ x. absurd (true≢false x); most = omega (arith, e, v.within) }
  refuses_in front yeses n at (trailer_refused {t = t} g z w o x) =
      wrong_in ends_trailer is_good_trailer t 6 at (whole_most ends_trailer head_limit t (omega arith) w) refl x
  refuses_in front yeses n at (end_refused {n = k} g z t c e) = plain_in (suc k) (end_in_lem _ _ _ _ k e)

  abbrev EventIn : StreamEvent → Type 0
  EventIn (question q) = Unit {0}
  EventIn (message e) = Unit {0}
  EventIn (last (closed total)) = Unit {0}
  EventIn (last (complete total)) = Unit {0}
  EventIn (last (refused n at)) = OfStreams n at

  decides_in : (front : List ℕ) (yeses : ℕ) (e : StreamEvent) → Decides terms front yeses e → EventIn e
  decides_in front yeses e (head_asked g) = tt
  decides_in front yeses e (head_told g) = tt
  decides_in front yeses e (block_asked g) = tt
  decides_in front yeses e (block_told g) = tt
  decides_in front yeses e (body_closed g z k c) = tt
  decides_in front yeses e (end_asked g z k c) = tt
  decides_in front yeses e (completed g z k c) = tt
  decides_in front yeses e (rule_broken {n = n} {place = at} r) = refuses_in front yeses n at r

  expected_in : (S : List ℕ) (answers' : List Bool) (told : Bool) (place : ℕ) (e : StreamEvent) → Expected terms S answers' told place e → EventIn e
  expected_in S answers' told place e (on_time d) = decides_in d.front d.yeses e d.decides
  expected_in S answers' told place e (denied d others x) = plain_in 10 refl
  expected_in S answers' told place e (broken_off yeses others x u t) = plain_in 11 refl

-- ---- of a run

module _ (keys : KeyRing) (uri h b q : List ℕ) (ks : List Invocation) where
  words_in : AllIn (words keys uri h b q ks)
  words_in = rw (demand_3 keys uri h b q ks).each_call (trace_in (terms_of keys uri) (plain_calls keys h b q ks))

  refused_in_lem : (place n at : ℕ) → Stands (place, last (refused n at)) (events (words keys uri h b q ks)) → OfStreams n at
  refused_in_lem place n at s =
      expected_in (terms_of keys uri) (taken keys uri h b q ks) (answers keys uri h b q ks) (ended keys uri h b q ks) place (last (refused n at))
      ((refused_exactly keys uri h b q ks place n at).0 s)

  pub numbers : NumbersOfTheTable keys uri h b q ks
  numbers =
      record {
        of_calls = λ n count s. one_in s.before s.after (misused n, count) (rw s.joined words_in);
        of_streams = refused_in_lem;
      }
