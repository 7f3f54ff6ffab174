-- What a byte or a call is to leave: the buffers of the mark that the stream leads to, and at an open question as many bytes pending as the
-- mark says. Assumes nothing.
use mathlib.Core.Path.{◌≡◌, sym, ap, ◌∙◌}
use mathlib.Core.List.{List, []}
use Prim.Native.Nat.{ℕ, ◌≤◌}
use lib.ListN.{length, replicate}
use Rattle.sections.proofs.Marks.{Mark, midway, waiting, done, left_at}
use Rattle.refusals.specs.declared.Refusal.{Refusal}
use Rattle.stream.specs.Buffers.{Buffers, front, pending, with_last_word, effects}
use Rattle.stream.specs.Events.{Release, LastWord, refused}
use Rattle.stream.specs.Stream.{Context, rules}
use Rattle.stream.specs.Terms.{Terms}
use Rattle.state.specs.Configuration.{Configuration, Next, on, stop, refuse}
use Rattle.state.specs.Configuration as D
use Rattle.state.specs.declared.phase.Phase.{Phase}
use Rattle.buffers.specs.Left.{buffers, buffers_in}
use Rattle.buffers.proofs.Fronts.{none_gathered, cleared_front}

-- where a stream has led
abbrev pub Reached : Type 0
Reached = Mark Context Release LastWord Buffers

abbrev pub Waits : Phase → Reached → Type 0
Waits p (midway c g b) = Unit {0}
Waits p (waiting c l y b) = D.pending p ≡ pending c l
Waits p (done b) = Unit {0}

pub record Left (terms : Terms) (d : Configuration) (m : Reached) : Type 0 where
  pub same : buffers_in d ≡ left_at (rules terms) effects m
  pub waits : Waits d.reader.phase m

abbrev pub after_next : Next → Configuration
after_next (on d) = d
after_next (stop w signature d) = d

module _ {terms : Terms} (d : Configuration) (b : Buffers) (same : buffers_in d ≡ b) where
  -- a section is to come
  pub begins : (c : Context) → Left terms d (midway c [] b)
  begins c = record { same = same ∙ sym (none_gathered c b); waits = tt }

  -- a final refusal, with as many bytes cleared as were pending
  pub refuses : (why : Refusal) (count : ℕ) (c : Context) (l : List ℕ) → count ≡ pending c l → count ≤ length d.block
      → Left terms (after_next (refuse why count d)) (done (with_last_word c l (refused why.number why.at) b))
  unfolding refuse with_last_word
  refuses why count c l e h =
      let m : D.cleared count d.block ≡ front (replicate (pending c l) 0) b.block =
      cleared_front count d.block h
      ∙ ap (λ (k : ℕ). front (replicate k 0) d.block) e
      ∙ ap (λ (t : Buffers). front (replicate (pending c l) 0) t.block) same in
      record { same = λ i. buffers (same i).head (m i) (same i).question; waits = tt }
