-- A block message from what the code has of it: the id's bytes in an array of 64, the offset's digits in an array of 20, and
-- the hash. Assumes nothing.
use mathlib.Core.Bool.{Bool, true, false}
use mathlib.Core.List.{List, ◌∷◌, ◌++◌}
use mathlib.Core.Path.{◌≡◌, refl, sym, ap, ◌∙◌}
use Prim.Native.Nat.{ℕ, ◌+◌, ◌≤◌, ◌<◌, ◌^◌, min}
use native.Mathlib.Nat.{min-eq_left}
use native.Mathlib.Omega.{arith}
use borrow.Author.Tests.{le-leb, lt-leb, leb-true, leb-false}
use lib.Dec.{leb}
use lib.ListN.{length, take, drop, replicate, length-append, length-take}
use lib.Seq.{take_all, take-append_seam}
use Rattle.number.proofs.Numerals.{twenty_digits}
use Rattle.number.proofs.Placing.{decimal_fits}
use Rattle.number.specs.Writing.{Written, written, over, decimal_written}
use Rattle.stream.specs.Blocks.{block_message}
use Rattle.stream.specs.Numbers.{decimal}
use Rattle.places.specs.Writing.{Placed, placed, wrote}
use Rattle.places.proofs.WritingLaws.{wrote_front}
use Rattle.blocks.specs.Writing.{at_front, message_written}

-- ---- by the room

module _ (m out : List ℕ) where
  pub message_fits : length m ≤ length out → message_written m out ≡ written (length m) (at_front m out)
  unfolding message_written
  message_fits h = simp (le-leb (length m) (length out) h)

  pub message_no_room : length out < length m → message_written m out ≡ written 0 out
  unfolding message_written
  message_no_room h = simp (lt-leb (length m) (length out) h)

-- ---- the parts

-- an array of 64 has no more to take
id_part : (id : List ℕ) (k e : ℕ) → length id ≡ 64 → e ≡ min k 64 → take e id ≡ take k id
id_part id k e l f = by (leb k 64) refl
  where
    by : (t : Bool) → leb k 64 ≡ t → take e id ≡ take k id
    by true h = rw (f, min-eq_left {n = k} {m = 64} (leb-true k 64 h))
    by false h =
        let g = leb-false k 64 h in
        let w : e ≡ 64 = omega arith in
        rw (w, take_all 64 id (omega arith), take_all k id (omega arith))

over_front : (o l : List ℕ) → take (length l) (over o 0 l) ≡ l
unfolding over
over_front o l = take-append_seam l (drop (0 + length l) o)

-- what a count and a buffer are, from an equation of both
module _ {m n : ℕ} {a b : List ℕ} (e : written m a ≡ written n b) where
  count_is : m ≡ n
  count_is = ap (λ (w : Written). w.count) e

  bytes_are : a ≡ b
  bytes_are = ap (λ (w : Written). w.bytes) e

module _ (n count : ℕ) (d : List ℕ) (h : n < 2 ^ 64) (w : written count d ≡ decimal_written (replicate 20 0) 0 n) where
  digits_written : written count d ≡ written (length (decimal n)) (over (replicate 20 0) 0 (decimal n))
  digits_written = w ∙ decimal_fits (replicate 20 0) 0 n (omega (arith, twenty_digits n h))

  pub digits_count : count ≡ length (decimal n)
  digits_count = count_is digits_written

  pub digits_few : count ≤ 20
  digits_few = omega (arith, digits_count, twenty_digits n h)

  digits_part : take count d ≡ decimal n
  digits_part = rw (digits_count, bytes_are digits_written) (over_front (replicate 20 0) (decimal n))

  -- ---- the message

  module _ (id hash : List ℕ) (k e : ℕ) (li : length id ≡ 64) (lh : length hash ≡ 64) (f : e ≡ min k 64) where
    abbrev message : List ℕ
    message = block_message (take k id) n hash

    message_length : e + count + 66 ≡ length message
    unfolding block_message
    message_length = simp length-append (omega (arith, digits_count, length-take k id))

    message_parts : take e id ++ 0 ∷ (take count d ++ 0 ∷ hash) ≡ message
    unfolding block_message
    message_parts = rw (id_part id k e li f, digits_part)

    pub left_out : (out : List ℕ) → length out < e + count + 66 → message_written message out ≡ written 0 out
    left_out out r = message_no_room message out (omega (arith, message_length))

    pub put_in : (out b : List ℕ) (k : ℕ) → e + count + 66 ≤ length out → placed k b ≡ wrote out 0 (take e id ++ 0 ∷ (take count d ++ 0 ∷ hash))
        → message_written message out ≡ written k b
    unfolding at_front
    put_in out b k r q =
        let l : length message ≤ length out = omega (arith, message_length) in
        let w = q ∙ ap (wrote out 0) message_parts ∙ wrote_front out message l in
        message_fits message out l ∙ sym (ap (λ (p : Placed). written p.next p.bytes) w)
