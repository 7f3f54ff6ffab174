-- Where the empty line stands that ends a text. Without its first line a text has the same end, so that heads and trailers are gone over line by
-- line. Assumes nothing.
use mathlib.Core.Bool.{Bool, true, false, ◌&&◌, ◌||◌, or-false}
use mathlib.Core.List.{List, [], ◌∷◌, ◌++◌}
use mathlib.Core.Path.{◌≡◌, refl, sym, ap, ◌∙◌}
use Prim.Native.Nat.{ℕ, zero, suc, ◌+◌, ◌-◌, ◌≤◌, ◌<◌}
use native.Mathlib.Nat.{suc-add, zero-add}
use native.Mathlib.Omega.{arith}
use borrow.Author.Tests.{eqb-true, leb-true, leb-false}
use lib.Dec.{eqb, leb}
use lib.ListN.{length, take, drop, length-take, length-drop}
use lib.Seq.{take-take, take-nil, take-length, length-take-le}
use Rattle.stream.specs.Bytes.{same}
use Rattle.stream.specs.Lines.{crlf, ends_with}
use Rattle.stream.specs.Template.{starts_with}
use Rattle.stream.specs.Trailer.{ends_trailer}
use Rattle.stream.proofs.Truth.{same_equal, left_holds, right_holds}
use Rattle.text.specs.Line.{line_length}
use Rattle.text.proofs.LineLaws.{line_cons, line_break, crlf_two, ends_short}
use Rattle.text.proofs.SameLaws.{same_sym, same_length}
use Rattle.text_forms.proofs.FirstEnds.{EndsFirst}

-- CR LF CR LF
abbrev pub twice : List ℕ
twice = crlf ++ crlf

-- ---- with a byte in front

-- what ended before ends still, or else the byte completes the end
ends_cons : (t : List ℕ) (b : ℕ) (l : List ℕ) → ends_with t (b ∷ l) ≡ same t (b ∷ l) || ends_with t l
unfolding ends_with
ends_cons t b l = go (leb (length t) (length l)) refl
  where
    go : (x : Bool) → leb (length t) (length l) ≡ x → ends_with t (b ∷ l) ≡ same t (b ∷ l) || ends_with t l
    go true e =
        let h : length t ≤ length l = leb-true (length t) (length l) e in
        let n : suc (length l) - length t ≡ suc (length l - length t) = omega arith in
        rw (same_length t (b ∷ l) (λ q. omega arith), n)
    go false e =
        let h : length l < length t = leb-false (length t) (length l) e in
        let n : suc (length l) - length t ≡ 0 = omega arith in
        rw (ends_short t l h, n) (sym (or-false (same t (b ∷ l))))

twice_starts : (l : List ℕ) → starts_with crlf l ≡ false → same twice l ≡ false
unfolding starts_with same
twice_starts l e = go (same twice l) refl
  where
    go : (x : Bool) → same twice l ≡ x → x ≡ false
    go true q = rw (← same_equal twice l q) at e
    go false q = refl

front_starts : (k : ℕ) (l : List ℕ) → 2 ≤ k → starts_with crlf (take k l) ≡ starts_with crlf l
unfolding starts_with
front_starts k l h = rw (take-take 2 k l h)

-- ---- past the first line

-- after the first line CR LF is there already, so that CR LF alone is an end
ends_rest : (l : List ℕ) → line_length l + 2 ≤ length l → ends_with twice l ≡ ends_trailer (drop (line_length l + 2) l)
unfolding ends_trailer same
ends_rest [] h = absurd (omega arith)
ends_rest (b ∷ []) h = absurd (omega arith)
ends_rest (b ∷ c ∷ l) h = go (starts_with crlf (b ∷ c ∷ l)) refl (ends_rest (c ∷ l))
  where
    at-end : (b c : ℕ) → b ≡ 13 → c ≡ 10 → ends_with twice (b ∷ c ∷ l) ≡ ends_trailer l
    at-end b c p q = rw (p, q) (ends_cons twice 13 (10 ∷ l) ∙ rw (ends_cons twice 10 l, same_sym l crlf))

    go : (x : Bool) → starts_with crlf (b ∷ c ∷ l) ≡ x → (line_length (c ∷ l) + 2 ≤ length (c ∷ l) → ends_with twice (c ∷ l) ≡ ends_trailer (drop (line_length (c ∷ l) + 2) (c ∷ l)))
        → ends_with twice (b ∷ c ∷ l) ≡ ends_trailer (drop (line_length (b ∷ c ∷ l) + 2) (b ∷ c ∷ l))
    go true e ih =
        let k : eqb b 13 && eqb c 10 ≡ true = sym (crlf_two b c l) ∙ e in
        rw (line_break b (c ∷ l) e) (at-end b c (eqb-true b 13 (left_holds (eqb b 13) (eqb c 10) k)) (eqb-true c 10 (right_holds (eqb b 13) (eqb c 10) k)))
    go false e ih =
        ends_cons twice b (c ∷ l) ∙ rw (twice_starts (b ∷ c ∷ l) e, line_cons b (c ∷ l) e, suc-add) (ih (omega (arith, line_cons b (c ∷ l) e)))

-- a beginning that goes no further than the first line has no end
pub ends_line : (k : ℕ) (l : List ℕ) → k < line_length l + 2 → ends_with twice (take k l) ≡ false
ends_line zero l h = ends_short twice [] (omega arith)
ends_line (suc k) [] h = ends_short twice [] (omega arith)
ends_line (suc zero) (b ∷ l) h = ends_short twice (b ∷ []) (omega arith)
ends_line (suc (suc k)) (b ∷ l) h = go (starts_with crlf (b ∷ l)) refl (ends_line (suc k) l)
  where
    go : (x : Bool) → starts_with crlf (b ∷ l) ≡ x → (suc k < line_length l + 2 → ends_with twice (take (suc k) l) ≡ false) → ends_with twice (b ∷ take (suc k) l) ≡ false
    go true e ih = absurd (omega (arith, line_break b l e))
    go false e ih =
        ends_cons twice b (take (suc k) l)
        ∙ rw (twice_starts (b ∷ take (suc k) l) (front_starts (suc (suc k)) (b ∷ l) (omega arith) ∙ e)) (ih (omega (arith, line_cons b l e)))

-- a beginning that goes further has the same first line
front_line : (k : ℕ) (l : List ℕ) → line_length l + 2 ≤ k → line_length (take k l) ≡ line_length l
front_line zero l h = absurd (omega arith)
front_line (suc k) [] h = refl
front_line (suc k) (b ∷ l) h = go (starts_with crlf (b ∷ l)) refl (front_line k l)
  where
    same_start : starts_with crlf (b ∷ take k l) ≡ starts_with crlf (b ∷ l)
    same_start = front_starts (suc k) (b ∷ l) (omega arith)

    go : (x : Bool) → starts_with crlf (b ∷ l) ≡ x → (line_length l + 2 ≤ k → line_length (take k l) ≡ line_length l) → line_length (b ∷ take k l) ≡ line_length (b ∷ l)
    go true e ih = line_break b (take k l) (same_start ∙ e) ∙ sym (line_break b l e)
    go false e ih = line_cons b (take k l) (same_start ∙ e) ∙ rw (line_cons b l e, ih (omega (arith, line_cons b l e)))

-- ---- the first end of a text, and of its rest

drop-take : (a m : ℕ) (l : List ℕ) → drop a (take (a + m) l) ≡ take m (drop a l)
drop-take zero m l = rw (zero-add m)
drop-take (suc a) m [] = rw (suc-add, take-nil m)
drop-take (suc a) m (b ∷ l) = rw (suc-add) (drop-take a m l)

module _ (l : List ℕ) (h : line_length l + 2 ≤ length l) where
  rest : List ℕ
  rest = drop (line_length l + 2) l

  ends_later : (m : ℕ) → line_length l + 2 + m ≤ length l → ends_with twice (take (line_length l + 2 + m) l) ≡ ends_trailer (take m rest)
  unfolding rest
  ends_later m k =
      let e : line_length (take (line_length l + 2 + m) l) ≡ line_length l = front_line (line_length l + 2 + m) l (omega arith) in
      let n : length (take (line_length l + 2 + m) l) ≡ line_length l + 2 + m = length-take-le (line_length l + 2 + m) l k in
      ends_rest (take (line_length l + 2 + m) l) (omega arith) ∙ rw (e, drop-take (line_length l + 2) m l)

  pub first_rest : EndsFirst (ends_with twice) l → EndsFirst ends_trailer (drop (line_length l + 2) l)
  unfolding rest
  first_rest f =
      record {
        there = sym (ends_rest l h) ∙ f.there;
        earlier = λ m k. sym (ends_later m (omega (arith, length-drop (line_length l + 2) l))) ∙ f.earlier (line_length l + 2 + m) (omega (arith, length-drop (line_length l + 2) l));
      }

  pub rest_first : EndsFirst ends_trailer (drop (line_length l + 2) l) → EndsFirst (ends_with twice) l
  unfolding rest
  rest_first f = record { there = ends_rest l h ∙ f.there; earlier = λ k y. go k y (leb (line_length l + 2) k) refl }
    where
      go : (k : ℕ) → k < length l → (x : Bool) → leb (line_length l + 2) k ≡ x → ends_with twice (take k l) ≡ false
      go k y true e =
          let z : line_length l + 2 ≤ k = leb-true (line_length l + 2) k e in
          let n : k ≡ line_length l + 2 + (k - (line_length l + 2)) = omega arith in
          rw n (ends_later (k - (line_length l + 2)) (omega arith) ∙ f.earlier (k - (line_length l + 2)) (omega (arith, length-drop (line_length l + 2) l)))
      go k y false e = ends_line k l (leb-false (line_length l + 2) k e)

-- ---- heads and trailers: only CR LF at once is another end

module _ (l : List ℕ) (s : starts_with crlf l ≡ false) where
  not_bare : (k : ℕ) → same (take k l) crlf ≡ false
  unfolding starts_with same
  not_bare k = go (same (take k l) crlf) refl
    where
      go : (x : Bool) → same (take k l) crlf ≡ x → x ≡ false
      go true q =
          let e : take k l ≡ crlf = same_equal (take k l) crlf q in
          let n : length (take k l) ≡ 2 = ap length e in
          let z : starts_with crlf crlf ≡ starts_with crlf l = rw e at (front_starts k l (omega (arith, length-take k l))) in
          z ∙ s
      go false q = refl

  ends_alike : (k : ℕ) → ends_trailer (take k l) ≡ ends_with twice (take k l)
  unfolding ends_trailer
  ends_alike k = rw (not_bare k)

  ends_all : ends_trailer l ≡ ends_with twice l
  ends_all = rw (take-length l) at (ends_alike (length l))

  pub trailer_head : EndsFirst ends_trailer l → EndsFirst (ends_with twice) l
  trailer_head f = record { there = sym ends_all ∙ f.there; earlier = λ k y. sym (ends_alike k) ∙ f.earlier k y }

  pub head_trailer : EndsFirst (ends_with twice) l → EndsFirst ends_trailer l
  head_trailer f = record { there = ends_all ∙ f.there; earlier = λ k y. ends_alike k ∙ f.earlier k y }
