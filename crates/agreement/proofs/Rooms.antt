-- The reader tests the room as paper 01 names it. Assumes nothing.
use mathlib.Core.Path.{◌≡◌, refl}
use mathlib.Core.Bool.{◌&&◌}
use mathlib.Core.List.{List}
use Prim.Native.Nat.{ℕ}
use lib.ListN.{length}
use Rattle.ring.specs.declared.KeyRing.{KeyRing}
use Rattle.sections.specs.Calls.{Request}
use Rattle.calls.specs.Response.{are_roomy}
use Rattle.agreement.specs.Loans.{have_room, ring_fits, loan_fits}

pub room_same : (h b q : List ℕ) → are_roomy (length h) (length b) (length q) ≡ have_room h b q
unfolding are_roomy have_room
room_same h b q = refl

pub loan_same : (h b q : List ℕ) (keys : KeyRing) (r : Request) → are_roomy (length h) (length b) (length q) && ring_fits keys r ≡ loan_fits h b q keys r
unfolding are_roomy have_room loan_fits
loan_same h b q keys r = refl
