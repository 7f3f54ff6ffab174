-- Whatever a whole section says where the reading stands is due there; and where the bytes run out, the stream is unfinished.
-- Assumes nothing.
use mathlib.Core.Bool.{Bool, true, false, true≢false}
use mathlib.Core.List.{List, ◌++◌, append_assoc}
use mathlib.Core.Path.{◌≡◌, refl, sym, ◌∙◌}
use Prim.Native.Nat.{ℕ, zero, suc, ◌≤◌, ◌<◌}
use native.Mathlib.Omega.{arith}
use borrow.Author.Tests.{leb-true, leb-false}
use lib.Dec.{leb}
use lib.ListN.{length, take}
use lib.Seq.{length-take-le}
use Rattle.octets.specs.Choice.{pick}
use Rattle.sections.specs.Reading.{go, ask, stop, final}
use Rattle.sha256.specs.Sha256.{sha256}
use Rattle.sections.proofs.Cuts.{NoneBelow}
use Rattle.stream.specs.Blocks.{is_whole_line}
use Rattle.stream.specs.Bytes.{same}
use Rattle.stream.specs.Ends.{all_fields, end_fault}
use Rattle.stream.specs.Events.{closed, complete, refused, has_place, place_of}
use Rattle.stream.specs.Head.{ends_head, is_whole_head}
use Rattle.stream.specs.Limits.{head_limit, line_limit}
use Rattle.stream.specs.Lines.{crlf, ends_with}
use Rattle.stream.specs.Places.{data_end_place, trailer_place}
use Rattle.stream.specs.Stream.{Context, next_line, is_whole, Says, unless_broken, announced, show_of, judge_data_end, end_question, judge_end, judge_trailer, judge}
use Rattle.stream.specs.Terms.{Terms}
use Rattle.stream.specs.Trailer.{ends_trailer, is_whole_trailer, is_trailer}
use Rattle.stream.proofs.Truth.{same_equal, same_self}
use Rattle.exactness.specs.Beginning.{Beginning, onward, written, head_in, announces, body, questions}
use Rattle.exactness.specs.Good.{Announced, Good, GoodTrailer, claims}
use Rattle.exactness.specs.Refusals.{Unended, data_end_refused, trailer_refused, end_refused, Unfinished, in_head, in_first_line, in_block, in_data_end, in_next_line, in_trailer}
use Rattle.exactness.specs.Telling.{end_asks, body_closed, end_asked, completed, rule_broken}
use Rattle.exactness.proofs.Faults.{faultless_trailer, faultless_claim}
use Rattle.exactness.proofs.Forward.{past_of, context_of, end_says}
use Rattle.exactness.proofs.Reached.{Reached, at_head, at_first, at_line, at-end, at_next, SaysDue, unless_due, head_due, first_due, next_due}
use Rattle.exactness.proofs.WentWrong.{data_end_wrong, trailer_wrong}
use Rattle.exactness.proofs.Wholes.{cut_whole, none_unended}

pub onward_written : (w : Beginning) (b f : List ℕ) → written w ++ b ++ crlf ++ f ≡ written (onward w b f)
unfolding written
onward_written w b f = rw (append_assoc (written w ++ b) crlf f, append_assoc (written w) b (crlf ++ f))

pub onward_whole : (w : Beginning) (b l : List ℕ) → written (onward w b l) ≡ written w ++ b ++ (crlf ++ l)
onward_whole w b l = rw (← onward_written w b l, append_assoc (written w ++ b) crlf l)

pub onward_rest : (w : Beginning) (b l r : List ℕ) → written (onward w b l) ++ r ≡ written w ++ b ++ (crlf ++ (l ++ r))
onward_rest w b l r =
    rw (← onward_written w b l, append_assoc (written w ++ b ++ crlf) l r, append_assoc (written w ++ b) crlf (l ++ r))

-- what is cut off by its length has that length
exact_length : (n : ℕ) (f : List ℕ) → 0 < n → leb n (length f) ≡ true → NoneBelow (λ t. leb n (length t)) f (length f) → length f ≡ n
exact_length n f p w h = by (leb (length f) n) refl
  where
    by : (t : Bool) → leb (length f) n ≡ t → length f ≡ n
    by true e = omega (arith, leb-true n (length f) w, leb-true (length f) n e)
    by false e =
        let y : n < length f = leb-false (length f) n e in
        let m : length (take n f) ≡ n = length-take-le n f (omega arith) in
        absurd (omega (arith, leb-false n (length (take n f)) (h n p y)))

-- and where nothing is, it is shorter
short_length : (n : ℕ) (f : List ℕ) → 0 < n → NoneBelow (λ t. leb n (length t)) f (suc (length f)) → length f < n
short_length n f p h = by (leb n (length f)) refl
  where
    by : (t : Bool) → leb n (length f) ≡ t → length f < n
    by false e = leb-false n (length f) e
    by true e =
        let y : n ≤ length f = leb-true n (length f) e in
        let m : length (take (length f) f) ≡ length f = length-take-le (length f) f (omega arith) in
        absurd (omega (arith, leb-false n (length (take (length f) f)) (h (length f) (omega arith) (omega arith))))

-- no place is no place, whatever the number
pub no_place_left : (n : ℕ) → place_of n 0 ≡ 0
no_place_left n = by (has_place n)
  where
    by : (t : Bool) → ◌≡◌ {A = ℕ} (pick t 0 0) 0
    by true = refl
    by false = refl

module _ (terms : Terms) where
  -- ---- a whole section

  end_due : (w : Beginning) (b f : List ℕ) → Good terms w → Announced w b → length f ≡ 2
      → SaysDue terms (written w ++ b ++ f) (questions w) (judge_data_end (show_of terms.ring (head_in w)) (past_of w) b f)
  unfolding judge_data_end
  end_due w b f g a l = by (same f crlf) refl
    where
      other : same f crlf ≡ false → f ≡ crlf → ⊥
      other h e = true≢false (sym (same_self crlf) ∙ (rw e at h))

      by : (t : Bool) → same f crlf ≡ t
          → SaysDue terms (written w ++ b ++ f) (questions w)
          (elim t [ true ↦ go (next_line (show_of terms.ring (head_in w)) (past_of w) b) | false ↦ stop (refused 6 (data_end_place f)) ])
      by true h = rw (same_equal f crlf h) (at_next g a)
      by false h = rule_broken (data_end_refused g a l (other h) (data_end_wrong f))

  -- the end of the show, after a good trailer
  claim_due : (w : Beginning) (t : List ℕ) → Good terms w → announces w ≡ 0 → GoodTrailer t
      → SaysDue terms (written w ++ t) (questions w) (end_says terms w t)
  unfolding judge_end show_of end_question end_asks end_fault
  claim_due w t g z k = by (claims (head_in w) t) refl
    where
      fault : ℕ
      fault = end_fault (head_in w) (all_fields (head_in w) t) (length (body w)) (sha256 (body w))

      asks : Says
      asks = ask (end_question (show_of terms.ring (head_in w)) (all_fields (head_in w) t)) (final (complete (length (body w))))

      by : (x : Bool) → claims (head_in w) t ≡ x
          → SaysDue terms (written w ++ t) (questions w) (elim x [ true ↦ unless_broken fault 0 asks | false ↦ stop (closed (length (body w))) ])
      by true c =
          unless_due terms (written w ++ t) (questions w) fault 0 asks
          (λ e. let good = faultless_claim (head_in w) (body w) t c e in (end_asked g z k good, completed g z k good))
          (λ n e. rw (no_place_left (suc n)) (end_refused g z k c e))
      by false c = body_closed g z k c

  trailer_due : (w : Beginning) (f : List ℕ) → Good terms w → announces w ≡ 0 → is_whole_trailer f ≡ true → NoneBelow is_whole_trailer f (length f)
      → SaysDue terms (written w ++ f) (questions w) (judge_trailer (show_of terms.ring (head_in w)) (past_of w) (length (body w)) f)
  unfolding judge_trailer is_whole_trailer ends_trailer ends_with same show_of
  trailer_due w f g z t n = by (is_trailer f) refl
    where
      by : (x : Bool) → is_trailer f ≡ x
          → SaysDue terms (written w ++ f) (questions w) (elim x [ true ↦ end_says terms w f | false ↦ stop (refused 6 (trailer_place f)) ])
      by true h = claim_due w f g z (faultless_trailer f n h)
      by false h = rule_broken (trailer_refused g z (cut_whole ends_trailer head_limit f refl (omega arith) t n) h (trailer_wrong f))

  -- after a line, by the size that it announces
  line_due : (w : Beginning) (f : List ℕ) → Good terms w → is_whole (context_of terms w) f ≡ true → NoneBelow (is_whole (context_of terms w)) f (length f)
      → SaysDue terms (written w ++ f) (questions w) (judge terms (context_of terms w) f)
  unfolding is_whole judge
  line_due w f g t n = by (announces w) refl t n
    where
      next : ℕ → Context
      next m = announced (show_of terms.ring (head_in w)) (past_of w) (length (body w)) m

      by : (m : ℕ) → announces w ≡ m → is_whole (next m) f ≡ true → NoneBelow (is_whole (next m)) f (length f)
          → SaysDue terms (written w ++ f) (questions w) (judge terms (next m) f)
      by zero a t n = trailer_due w f g a t n
      by (suc m) a t n =
          let e : length f ≡ suc m = exact_length (suc m) f (omega arith) t n in
          at-end {b = f} g (record { some = omega arith; just = e ∙ sym a })

  pub judge_due : (front : List ℕ) (yeses : ℕ) (c : Context) (f : List ℕ) → Reached terms front yeses c → is_whole c f ≡ true
      → NoneBelow (is_whole c) f (length f) → SaysDue terms (front ++ f) yeses (judge terms c f)
  unfolding is_whole judge
  judge_due front yeses c f at_head t n = head_due terms f t n
  judge_due front yeses c f (at_first {h = h} g) t n = first_due terms h f g t n
  judge_due front yeses c f (at_line {w = w} g e) t n = rw e (line_due w f g (rw e at t) (rw e at n))
  judge_due front yeses c f (at-end {w = w} {b = b} g a) t n = end_due w b f g a (exact_length 2 f (omega arith) t n)
  judge_due front yeses c f (at_next {w = w} {b = b} g a) t n = rw (onward_written w b f) (next_due terms w b f g a t n)

  -- ---- no whole section

  line_open : (f : List ℕ) → NoneBelow is_whole_line f (suc (length f)) → Unended (ends_with crlf) line_limit f
  unfolding is_whole_line ends_with same
  line_open f n = none_unended (ends_with crlf) line_limit f refl (omega arith) n

  open_line : (w : Beginning) (f : List ℕ) → Good terms w → NoneBelow (is_whole (context_of terms w)) f (suc (length f))
      → Unfinished terms (written w ++ f) (questions w)
  unfolding is_whole is_whole_trailer ends_trailer ends_with same
  open_line w f g n = by (announces w) refl n
    where
      by : (m : ℕ) → announces w ≡ m → NoneBelow (is_whole (announced (show_of terms.ring (head_in w)) (past_of w) (length (body w)) m)) f (suc (length f))
          → Unfinished terms (written w ++ f) (questions w)
      by zero a n = in_trailer g a (none_unended ends_trailer head_limit f refl (omega arith) n)
      by (suc m) a n = in_block f g (omega (arith, short_length (suc m) f (omega arith) n))

  pub none_unfinished : (front : List ℕ) (yeses : ℕ) (c : Context) (f : List ℕ) → Reached terms front yeses c
      → NoneBelow (is_whole c) f (suc (length f)) → Unfinished terms (front ++ f) yeses
  unfolding is_whole is_whole_head ends_head ends_with same
  none_unfinished front yeses c f at_head n = in_head (none_unended ends_head head_limit f refl (omega arith) n)
  none_unfinished front yeses c f (at_first g) n = in_first_line g (line_open f n)
  none_unfinished front yeses c f (at_line {w = w} g e) n = open_line w f g (rw e at n)
  none_unfinished front yeses c f (at-end g a) n = in_data_end f g a (short_length 2 f (omega arith) n)
  none_unfinished front yeses c f (at_next {w = w} {b = b} g a) n = rw (onward_written w b f) (in_next_line g a (line_open f n))
