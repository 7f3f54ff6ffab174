-- A status line read from its front. Assumes nothing.
use mathlib.Core.Path.{◌≡◌, refl, sym, ap, ◌∙◌}
use mathlib.Core.Bool.{Bool, true, false, ◌&&◌, false≢true}
use mathlib.Core.List.{List, [], ◌∷◌}
use Prim.Native.Nat.{ℕ, ◌+◌, ◌-◌, ◌≤◌, ◌<◌}
use native.Mathlib.Omega.{arith}
use borrow.Author.Tests.{eq-eqb, ne_eqb, eqb-true, eqb-false, leb-true, leb-false}
use lib.Dec.{eqb, leb}
use lib.ListN.{length, take, drop, length-take, length-drop}
use Rattle.octets.specs.Octets.{octets}
use Rattle.stream.specs.Bytes.{is_digit, is_text}
use Rattle.stream.specs.Lines.{status_scan, is_status_line, status_of}
use Rattle.stream.specs.Template.{Part, text, bytes, Scanned, parts, unlike, keep, kept, is_like, scan, run, starts_with}
use Rattle.places.specs.Place.{part_of}
use Rattle.classes.proofs.RunLaws.{run_le}
use Rattle.classes.proofs.ScanLaws.{scan_text, scan_unlike, scan_bytes_to, scan_end, scan_over}

abbrev after_digits : List Part
after_digits = text (octets " ") ∷ bytes is_text ∷ []

-- the test that the definition makes, of what was scanned
abbrev is_status : Scanned → Bool
is_status x = is_like x && eqb (length (kept 0 x)) 3

-- digits of another number are refused, whatever comes after them
not_three : (l : List ℕ) (x : Scanned) → (length l ≡ 3 → ⊥) → is_status (keep l x) ≡ false
not_three l (parts ls) h = ne_eqb (length l) 3 h
not_three l unlike h = refl

module _ (s : List ℕ) where
  pub no_version : starts_with (octets "HTTP/1.1 ") s ≡ false → is_status_line s ≡ false
  unfolding is_status_line status_scan
  no_version e = rw (scan_unlike (bytes is_digit ∷ after_digits) s 0 (octets "HTTP/1.1 ") e)

  module _ (v : starts_with (octets "HTTP/1.1 ") s ≡ true) (n : ℕ) (d : n ≡ 9 + length (run is_digit (drop 9 s))) where
    by_digits : status_scan s ≡ keep (take (n - 9) (drop 9 s)) (scan after_digits (drop n s))
    unfolding status_scan
    by_digits = scan_text (bytes is_digit ∷ after_digits) s 0 (octets "HTTP/1.1 ") v ∙ scan_bytes_to after_digits s 9 is_digit n d

    digits_long : length (take (n - 9) (drop 9 s)) ≡ n - 9
    digits_long = omega (arith, length-take (n - 9) (drop 9 s), run_le is_digit (drop 9 s))

    pub no_digits : (n ≡ 12 → ⊥) → is_status_line s ≡ false
    unfolding is_status_line
    no_digits h =
        let k : length (take (n - 9) (drop 9 s)) ≡ 3 → ⊥ = λ e. h (omega (arith, digits_long)) in
        rw by_digits (not_three (take (n - 9) (drop 9 s)) (scan after_digits (drop n s)) k)

  -- three digits: d, and what comes after them
  module _ (v : starts_with (octets "HTTP/1.1 ") s ≡ true) (d : 12 ≡ 9 + length (run is_digit (drop 9 s))) where
    pub no_space : starts_with (octets " ") (drop 12 s) ≡ false → is_status_line s ≡ false
    unfolding is_status_line
    no_space e = rw (by_digits v 12 d, scan_unlike (bytes is_text ∷ []) s 12 (octets " ") e)

    module _ (e : starts_with (octets " ") (drop 12 s) ≡ true) (m : ℕ) (f : m ≡ 13 + length (run is_text (drop 13 s))) where
      by_reason : scan after_digits (drop 12 s) ≡ keep (take (m - 13) (drop 13 s)) (scan [] (drop m s))
      by_reason = scan_text (bytes is_text ∷ []) s 12 (octets " ") e ∙ scan_bytes_to [] s 13 is_text m f

      pub no_reason : m < length s → is_status_line s ≡ false
      unfolding is_status_line
      no_reason h = rw (by_digits v 12 d, by_reason, scan_over s m h)

      pub is_status_lem : length s ≤ m → is_status_line s ≡ true
      unfolding is_status_line
      is_status_lem h = rw (by_digits v 12 d, by_reason, scan_end s m h) (eq-eqb _ 3 (digits_long v 12 d))

-- the tests of the code, one after the other
pub status_is : (s : List ℕ) → is_status_line s ≡ starts_with (octets "HTTP/1.1 ") s && (eqb (9 + length (run is_digit (drop 9 s))) 12 && (starts_with (octets " ") (drop 12 s) && leb (length s) (13 + length (run is_text (drop 13 s)))))
status_is s = by_version (starts_with (octets "HTTP/1.1 ") s) refl
  where
    n : ℕ
    n = 9 + length (run is_digit (drop 9 s))

    m : ℕ
    m = 13 + length (run is_text (drop 13 s))

    by_reason' : (v : starts_with (octets "HTTP/1.1 ") s ≡ true) (d : 12 ≡ n) (e : starts_with (octets " ") (drop 12 s) ≡ true) (t : Bool) → leb (length s) m ≡ t → is_status_line s ≡ t
    by_reason' v d e true h = is_status_lem s v d e m refl (leb-true (length s) m h)
    by_reason' v d e false h = no_reason s v d e m refl (leb-false (length s) m h)

    by_space : (v : starts_with (octets "HTTP/1.1 ") s ≡ true) (d : 12 ≡ n) (t : Bool) → starts_with (octets " ") (drop 12 s) ≡ t → is_status_line s ≡ t && leb (length s) m
    by_space v d true e = by_reason' v d e (leb (length s) m) refl
    by_space v d false e = no_space s v d e

    by_number : (v : starts_with (octets "HTTP/1.1 ") s ≡ true) (t : Bool) → eqb n 12 ≡ t → is_status_line s ≡ t && (starts_with (octets " ") (drop 12 s) && leb (length s) m)
    by_number v true h = by_space v (sym (eqb-true n 12 h)) (starts_with (octets " ") (drop 12 s)) refl
    by_number v false h = no_digits s v n refl (eqb-false n 12 h)

    by_version : (t : Bool) → starts_with (octets "HTTP/1.1 ") s ≡ t → is_status_line s ≡ t && (eqb n 12 && (starts_with (octets " ") (drop 12 s) && leb (length s) m))
    by_version true v = by_number v (eqb n 12) refl
    by_version false v = no_version s v

-- ---- for callers: where the digits stand

has_three : (l : List ℕ) (x : Scanned) → is_status (keep l x) ≡ true → (length l ≡ 3) × (kept 0 (keep l x) ≡ l)
has_three l (parts ls) h = (eqb-true (length l) 3 h, refl)
has_three l unlike h = absurd (false≢true h)

digits_at : (s : List ℕ) → is_status_line s ≡ true → (status_of s ≡ part_of s 9 12) × (12 ≤ length s)
unfolding is_status_line status_of part_of
digits_at s h = go (starts_with (octets "HTTP/1.1 ") s) refl
  where
    k : ℕ
    k = length (run is_digit (drop 9 s))

    go : (t : Bool) → starts_with (octets "HTTP/1.1 ") s ≡ t → (kept 0 (status_scan s) ≡ take 3 (drop 9 s)) × (12 ≤ length s)
    go false e = absurd (false≢true (sym (no_version s e) ∙ h))
    go true e =
        let b = by_digits s e (9 + k) refl in
        let l = take (9 + k - 9) (drop 9 s) in
        let p = has_three l (scan after_digits (drop (9 + k) s)) (ap is_status (sym b) ∙ h) in
        let j : 9 + k - 9 ≡ 3 = sym (digits_long s e (9 + k) refl) ∙ p.0 in
        (ap (kept 0) b ∙ p.1 ∙ ap (λ (i : ℕ). take i (drop 9 s)) j, omega (arith, p.0, length-take (9 + k - 9) (drop 9 s), length-drop 9 s))

pub status_digits_lem : (s : List ℕ) → is_status_line s ≡ true → status_of s ≡ part_of s 9 12
status_digits_lem s h = (digits_at s h).0

pub status_room : (s : List ℕ) → is_status_line s ≡ true → 12 ≤ length s
status_room s h = (digits_at s h).1
