-- Where a text went wrong: the place that a reader gives is the length of the longest beginning that some such number also has, and a text is such a
-- number just where that is the whole of it, and not empty. Assumes nothing.
use mathlib.Core.Bool.{Bool, true, false, ◌&&◌, and-false}
use mathlib.Core.List.{List, [], ◌∷◌}
use mathlib.Core.Option.{Option, none, some}
use mathlib.Core.Path.{◌≡◌, refl, ◌∙◌}
use Prim.Native.Nat.{ℕ, zero, suc, ◌+◌, ◌*◌, ◌≤◌}
use native.Mathlib.Omega.{arith}
use borrow.Author.Tests.{le-leb}
use lib.Dec.{eqb, leb, leb-zero, leb-suc-suc, leb-suc-zero}
use lib.ListN.{length}
use lib.Pow.{are_bytes}
use Rattle.octets.specs.Choice.{pick}
use Rattle.octets.specs.Viable.{LongestViable}
use Rattle.scanner.specs.Form.{Form, done, up_to, or_else, when, step_form, may_end_form, scanner_of, accepts_form, reach_form}
use Rattle.scanner.specs.Scanner.{Scanner, accepts_from, reach_from, accepts, reach}
use Rattle.scanner.proofs.Every.{every}
use Rattle.scanner.proofs.Finishing.{last_from, Finishing, ending}
use Rattle.scanner.proofs.Longest.{of_bytes, form_longest}
use Rattle.scanner.proofs.Reach.{accepts_to, accepts_off, reach_longest}
use Rattle.stream.specs.Bytes.{between, is_digit, is_hex, all}
use Rattle.stream.specs.Forms.{is_positive, decimal_form, hex_form, Count, fresh, wrote, step_count, may_end_count, count_up_to}
use Rattle.stream.specs.GoodText.{is_count}
use Rattle.stream.specs.Numbers.{decimal_digit, is_decimal, is_hex_number}
use Rattle.number.specs.Reading.{decimal_place, hex_place, count_place}
use Rattle.number.proofs.Accepting.{decimal_accepts, hex_accepts, count_accepts}

-- ---- a scanner in which a text may end at every state but the first

-- `later` holds of the states that a byte leads to
pub record EndsAnywhere {S : Type 0} (sc : Scanner S) (later : S → Type 0) : Type 0 where
  pub not_first : sc.may_end sc.start ≡ false
  pub ends : (s : S) → later s → sc.may_end s ≡ true
  pub begins : (t : S) (b : ℕ) → sc.step sc.start b ≡ some t → later t
  pub stays : (s t : S) (b : ℕ) → later s → sc.step s b ≡ some t → later t

module _ {S : Type 0} (sc : Scanner S) (later : S → Type 0) (law : EndsAnywhere sc later) where
  later_whole : (s : S) (l : List ℕ) → later s → accepts_from sc.step sc.may_end s l ≡ leb (length l) (reach_from sc.step s l)
  unfolding accepts_from reach_from
  later_whole s [] h = law.ends s h
  later_whole s (b ∷ l) h = by (sc.step s b) refl (λ t k. later_whole t l k)
    where
      by : (o : Option S) → sc.step s b ≡ o → ((t : S) → later t → accepts_from sc.step sc.may_end t l ≡ leb (length l) (reach_from sc.step t l))
          → accepts_from sc.step sc.may_end s (b ∷ l) ≡ leb (suc (length l)) (reach_from sc.step s (b ∷ l))
      by none e ih = accepts_off sc.step sc.may_end s b l e ∙ rw (e, reach_from, leb-suc-zero (length l))
      by (some t) e ih = accepts_to sc.step sc.may_end s t b l e ∙ ih t (law.stays s t b h e) ∙ rw (e, reach_from, leb-suc-suc)

  whole_accepted : (l : List ℕ) → accepts sc l ≡ leb 1 (reach sc l) && leb (length l) (reach sc l)
  unfolding accepts reach accepts_from reach_from
  whole_accepted [] = law.not_first
  whole_accepted (b ∷ l) = by (sc.step sc.start b) refl
    where
      by : (o : Option S) → sc.step sc.start b ≡ o
          → accepts_from sc.step sc.may_end sc.start (b ∷ l) ≡ leb 1 (reach_from sc.step sc.start (b ∷ l)) && leb (suc (length l)) (reach_from sc.step sc.start (b ∷ l))
      by none e = accepts_off sc.step sc.may_end sc.start b l e ∙ rw (e, reach_from)
      by (some t) e =
          accepts_to sc.step sc.may_end sc.start t b l e
          ∙ later_whole t l (law.begins t b e)
          ∙ rw (e, reach_from, leb-suc-suc 0 (reach_from sc.step t l), leb-suc-suc (length l) (reach_from sc.step t l), leb-zero)

-- ---- decimal and hex numbers

-- what may come after a first digit: a run of more, or nothing
data Rest : Form → Type 0 where
  nothing : Rest done
  more : (n : ℕ) (p : ℕ → Bool) → Rest (up_to n p done)

rest_ends : (f : Form) → Rest f → may_end_form f ≡ true
unfolding may_end_form
rest_ends f nothing = refl
rest_ends f (more n p) = refl

no_form : {A : Type 0} {f : Form} → ◌≡◌ {A = Option Form} none (some f) → A
no_form e = let z : ◌≡◌ {A = ℕ} 0 1 = cc in absurd (omega arith)

-- a run goes on only with a run
when_rest : (t : Bool) (f g : Form) → Rest f → when t f ≡ some g → Rest g
when_rest true f g h e = let q : f ≡ g = cc in rw (← q) h
when_rest false f g h e = no_form e

rest_stays : (f g : Form) (b : ℕ) → Rest f → step_form f b ≡ some g → Rest g
unfolding step_form
rest_stays f g b nothing e = no_form e
rest_stays f g b (more zero p) e = no_form e
rest_stays f g b (more (suc n) p) e = when_rest (p b) (up_to n p done) g (more n p) e

hex_ends : (n : ℕ) → EndsAnywhere (scanner_of (hex_form n)) Rest
unfolding hex_form may_end_form step_form
hex_ends n = record { not_first = refl; ends = rest_ends; begins = λ g b e. when_rest (is_hex b) (up_to n is_hex done) g (more n is_hex) e; stays = rest_stays }

decimal_ends : (n : ℕ) → EndsAnywhere (scanner_of (decimal_form n)) Rest
unfolding decimal_form may_end_form step_form
decimal_ends n = record { not_first = refl; ends = rest_ends; begins = begins; stays = rest_stays }
  where
    by : (b : ℕ) (t : Bool) (g : Form) → or_else (when t done) (when (is_positive b) (up_to n is_digit done)) ≡ some g → Rest g
    by b true g e = when_rest true done g nothing e
    by b false g e = when_rest (is_positive b) (up_to n is_digit done) g (more n is_digit) e

    begins : (g : Form) (b : ℕ) → step_form (decimal_form n) b ≡ some g → Rest g
    begins g b e = by b (eqb b 48) g e

hex_bytes_lem : (n : ℕ) → of_bytes (hex_form n) ≡ true
unfolding hex_form every
hex_bytes_lem n = refl

decimal_bytes : (n : ℕ) → of_bytes (decimal_form n) ≡ true
unfolding decimal_form every
decimal_bytes n = refl

pub decimal_longest : (most : ℕ) (l : List ℕ) → 1 ≤ most → LongestViable (is_decimal most) l (decimal_place most l)
unfolding decimal_place
decimal_longest zero l h = absurd (omega arith)
decimal_longest (suc n) l h = form_longest (decimal_form n) (decimal_bytes n) (is_decimal (suc n)) (decimal_accepts n) l

pub hex_longest : (most : ℕ) (l : List ℕ) → 1 ≤ most → LongestViable (is_hex_number most) l (hex_place most l)
unfolding hex_place
hex_longest zero l h = absurd (omega arith)
hex_longest (suc n) l h = form_longest (hex_form n) (hex_bytes_lem n) (is_hex_number (suc n)) (hex_accepts n) l

-- no text has one byte at least, and none at most
none_between : (n : ℕ) → between 1 0 n ≡ false
none_between zero = refl
none_between (suc n) = rw (leb-suc-zero n) (and-false (leb 1 (suc n)))

pub decimal_whole : (most : ℕ) (l : List ℕ) → is_decimal most l ≡ leb 1 (decimal_place most l) && leb (length l) (decimal_place most l)
unfolding decimal_place accepts_form reach_form is_decimal
decimal_whole zero l = rw (none_between (length l)) (and-false (all is_digit l))
decimal_whole (suc n) l = decimal_accepts n l ∙ whole_accepted (scanner_of (decimal_form n)) Rest (decimal_ends n) l

pub hex_whole : (most : ℕ) (l : List ℕ) → is_hex_number most l ≡ leb 1 (hex_place most l) && leb (length l) (hex_place most l)
unfolding hex_place accepts_form reach_form is_hex_number
hex_whole zero l = rw (none_between (length l)) (and-false (all is_hex l))
hex_whole (suc n) l = hex_accepts n l ∙ whole_accepted (scanner_of (hex_form n)) Rest (hex_ends n) l

-- ---- numbers from 1 to a limit

-- a digit has come
data Begun : Count → Type 0 where
  begun : (k v : ℕ) → Begun (wrote k v)

begun_ends : (c : Count) → Begun c → may_end_count c ≡ true
unfolding may_end_count
begun_ends c (begun k v) = refl

begun_next : (t : Bool) (k v : ℕ) (c : Count) → pick t (some (wrote k v)) none ≡ some c → Begun c
begun_next true k v c e = let q : wrote k v ≡ c = cc in rw (← q) (begun k v)
begun_next false k v c e = let z : ◌≡◌ {A = ℕ} 0 1 = cc in absurd (omega arith)

module _ (limit n : ℕ) where
  begun_by : (c d : Count) (b : ℕ) → step_count limit n c b ≡ some d → Begun d
  unfolding step_count
  begun_by fresh d b e = begun_next (is_positive b && leb (decimal_digit b) limit) n (decimal_digit b) d e
  begun_by (wrote zero v) d b e = begun_next false 0 0 d e
  begun_by (wrote (suc k) v) d b e = begun_next (is_digit b && leb (v * 10 + decimal_digit b) limit) k (v * 10 + decimal_digit b) d e

  count_ends : EndsAnywhere (count_up_to limit n) Begun
  unfolding may_end_count
  count_ends = record { not_first = refl; ends = begun_ends; begins = λ d b e. begun_by fresh d b e; stays = λ c d b h e. begun_by c d b e }

  -- a 1 completes what has no digit yet
  finish : Count → List ℕ
  finish fresh = 49 ∷ []
  finish (wrote k v) = []

  finish_bytes : (c : Count) → are_bytes (finish c) ≡ true
  unfolding finish
  finish_bytes fresh = refl
  finish_bytes (wrote k v) = refl

  module _ (h : 1 ≤ limit) where
    first_digit : step_count limit n fresh 49 ≡ some (wrote n 1)
    unfolding step_count
    first_digit = rw (le-leb 1 limit h)

    finishes : (c : Count) → accepts_from (step_count limit n) may_end_count c (finish c) ≡ true
    unfolding accepts_from may_end_count finish
    finishes fresh = rw (first_digit, accepts_from)
    finishes (wrote k v) = refl

    finishing : Finishing (count_up_to limit n)
    finishing = record { finish = finish; finishes = finishes }

    ending_bytes : (l : List ℕ) → are_bytes (ending (count_up_to limit n) finishing l) ≡ true
    unfolding ending finishing
    ending_bytes l = finish_bytes (last_from (step_count limit n) fresh l)

pub count_longest : (most limit : ℕ) (l : List ℕ) → 1 ≤ most → 1 ≤ limit → LongestViable (is_count most limit) l (count_place most limit l)
unfolding count_place
count_longest zero limit l h k = absurd (omega arith)
count_longest (suc n) limit l h k = reach_longest (count_up_to limit n) (finishing limit n k) (ending_bytes limit n k) (is_count (suc n) limit) (count_accepts limit n) l

pub count_whole : (most limit : ℕ) (l : List ℕ) → is_count most limit l ≡ leb 1 (count_place most limit l) && leb (length l) (count_place most limit l)
unfolding count_place is_count is_decimal
count_whole zero limit l = rw (none_between (length l), and-false (all is_digit l))
count_whole (suc n) limit l = count_accepts limit n l ∙ whole_accepted (count_up_to limit n) Begun (count_ends limit n) l
