-- No byte of a block's data or of its end changes the length of a buffer, or the head. Assumes nothing.
use mathlib.Core.List.{[], ◌∷◌}
use mathlib.Core.Path.{refl}
use Prim.Native.Nat.{ℕ}
use lib.Dec.{eqb, leb}
use lib.ListN.{length, get_or, length-set}
use Rattle.stream.specs.Bytes.{same}
use Rattle.stream.specs.Lines.{crlf}
use Rattle.state.specs.Configuration.{Configuration}
use Rattle.state.proofs.KeptLaws.{Kept, kept_on, kept_pick, kept_refuse}
use Rattle.body_steps.specs.Data.{push_data, push_data_end}

pub kept_data : (d : Configuration) (have size x : ℕ) → Kept d (push_data d have size x)
unfolding push_data
kept_data d have size x = kept_pick d (leb (length d.block) have) _ _ (kept_refuse _ have d) (kept_on d _ refl (length-set d.block have x) refl)

pub kept_data_end : (d : Configuration) (have size x : ℕ) → Kept d (push_data_end d have size x)
unfolding push_data_end
kept_data_end d have size x = kept_pick d (eqb have 0) _ _ (kept_on d _ refl refl refl) (kept_pick d (same (get_or d.reader.line 0 0 ∷ x ∷ []) crlf) _ _ (kept_on d _ refl refl refl) (kept_refuse _ size d))
