-- No step changes the length of a buffer, and none after the head changes the head: how this is put together. Assumes nothing.
use mathlib.Core.Bool.{Bool, true, false}
use mathlib.Core.Path.{◌≡◌, refl, ◌∙◌}
use Prim.Native.Nat.{ℕ}
use lib.ListN.{length}
use Rattle.octets.specs.Choice.{pick}
use Rattle.refusals.specs.declared.Refusal.{Refusal}
use Rattle.state.specs.Configuration.{Configuration, Next, on, stop, refuse}
use Rattle.state.proofs.BufferLaws.{length_cleared}

abbrev pub desk_of : Next → Configuration
desk_of (on d) = d
desk_of (stop w signature d) = d

pub record Kept (d : Configuration) (n : Next) : Type 0 where
  pub head : (desk_of n).head ≡ d.head
  pub block : length (desk_of n).block ≡ length d.block
  pub question : length (desk_of n).question ≡ length d.question

-- ---- the parts

pub kept_on : (d d' : Configuration) → d'.head ≡ d.head → length d'.block ≡ length d.block → length d'.question ≡ length d.question → Kept d (on d')
kept_on d d' a b c = record { head = a; block = b; question = c }

pub kept_pick : (d : Configuration) (t : Bool) (m n : Next) → Kept d m → Kept d n → Kept d (pick t m n)
kept_pick d true m n a b = a
kept_pick d false m n a b = b

-- what is kept from a desk that has kept all
pub kept_after_lem : (d d' : Configuration) (n : Next) → Kept d (on d') → Kept d' n → Kept d n
kept_after_lem d d' n a b = record { head = b.head ∙ a.head; block = b.block ∙ a.block; question = b.question ∙ a.question }

pub kept_refuse : (why : Refusal) (count : ℕ) (d : Configuration) → Kept d (refuse why count d)
unfolding refuse
kept_refuse why count d = record { head = refl; block = length_cleared count d.block; question = refl }
