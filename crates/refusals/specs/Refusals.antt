-- Refusals as the code has them. Assumes nothing.
use Rattle.std.specs.Prelude.{ℕ}
use Rattle.stream.specs.Events.{place_of}
use Rattle.refusals.specs.declared.Refusal.{Refusal}

abbrev pub placed : ℕ → ℕ → Refusal
placed n at = record { number = n; at = at }

-- "Other refusals carry none"
abbrev pub plain : ℕ → Refusal
plain n = placed n 0

-- by its number, and the place of the section's text
abbrev pub refusal_of : ℕ → ℕ → Refusal
refusal_of n place = placed n (place_of n place)
