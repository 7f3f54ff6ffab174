-- Laws of a text that is written over a part of a buffer, and what a caller of the writer rewrites with. Assumes nothing.
use mathlib.Core.Path.{◌≡◌}
use mathlib.Core.List.{List, [], ◌∷◌, ◌++◌, append_assoc}
use Prim.Native.Nat.{ℕ, suc, ◌+◌, ◌≤◌, ◌<◌}
use native.Mathlib.Nat.{add-zero}
use native.Mathlib.Omega.{arith}
use borrow.Author.Tests.{le-leb, lt-leb}
use lib.ListN.{length, set, take, drop, length-append, take-append-drop}
use lib.Seq.{paste, take-length, length-paste, take-set-le, drop-set-lt, get_or-set_same, drop-cons, lt-length-set}
use Rattle.stream.specs.Numbers.{decimal}
use Rattle.number.specs.Writing.{written, over, decimal_written}

-- ---- the buffer

pub over_nothing : (o : List ℕ) (at : ℕ) → over o at [] ≡ o
unfolding over
over_nothing o at = rw add-zero (take-append-drop at o)

drop_store : (o : List ℕ) (k d : ℕ) → k < length o → drop k (set o k d) ≡ d ∷ drop (suc k) o
drop_store o k d h = rw (drop-cons (set o k d) k 0 (lt-length-set o k d h), get_or-set_same o k d 0 h, drop-set-lt (suc k) o k d (omega arith))

-- the text's last byte can be stored first
pub over_last : (o : List ℕ) (at : ℕ) (l : List ℕ) (d : ℕ) → at + length l < length o → over o at (l ++ (d ∷ [])) ≡ over (set o (at + length l) d) at l
unfolding over
over_last o at l d h =
    let e : at + length (l ++ (d ∷ [])) ≡ suc (at + length l) = omega (arith, length-append l (d ∷ [])) in
    rw (e, append_assoc l (d ∷ []) (drop (suc (at + length l)) o), take-set-le at o (at + length l) d (omega arith), drop_store o (at + length l) d h)

-- the same as the library's copy, whose laws then hold of it
pub over_paste : (o : List ℕ) (at : ℕ) (l : List ℕ) → over o at l ≡ paste o at l (length l)
unfolding over
over_paste o at l = rw (take-length l, append_assoc (take at o) l (drop (at + length l) o))

pub length_over : (o : List ℕ) (at : ℕ) (l : List ℕ) → at + length l ≤ length o → length (over o at l) ≡ length o
length_over o at l h = rw over_paste (length-paste o at l (length l) h (omega arith))

-- ---- the writer

pub decimal_fits : (o : List ℕ) (at n : ℕ) → at + length (decimal n) ≤ length o → decimal_written o at n ≡ written (length (decimal n)) (over o at (decimal n))
unfolding decimal_written
decimal_fits o at n h = simp (le-leb (at + length (decimal n)) (length o) h)

pub decimal_no_room : (o : List ℕ) (at n : ℕ) → length o < at + length (decimal n) → decimal_written o at n ≡ written 0 o
unfolding decimal_written
decimal_no_room o at n h = simp (lt-leb (at + length (decimal n)) (length o) h)
