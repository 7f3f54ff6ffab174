-- No byte of the trailer changes the length of a buffer, or the head. Assumes nothing.
use mathlib.Core.Path.{refl}
use Prim.Native.Nat.{ℕ, ◌+◌}
use lib.Dec.{leb}
use lib.ListN.{length, take, length-set}
use Rattle.ends.specs.declared.trailer.Asked.{Asked}
use Rattle.refusals.specs.declared.Refusal.{Refusal}
use Rattle.std.specs.Prelude.{Option, Some, None, Result, Ok, Err}
use Rattle.ends.proofs.QuestionKept.{question_kept}
use Rattle.stream.specs.Trailer.{is_whole_trailer}
use Rattle.state.specs.Configuration.{Configuration}
use Rattle.state.proofs.KeptLaws.{Kept, kept_on, kept_pick, kept_after_lem, kept_refuse}
use Rattle.trailer_steps.specs.Trailer.{trailer_answered, trailer_gathered, push_trailer}

kept_answered : (d : Configuration) (have total : ℕ) (judged : Result (Option Asked) Refusal) → Kept d (trailer_answered d have total judged)
unfolding trailer_answered
kept_answered d have total (Ok None) = record { head = refl; block = refl; question = refl }
kept_answered d have total (Ok (Some a)) = record { head = refl; block = refl; question = refl }
kept_answered d have total (Err why) = kept_refuse why have d

kept_gathered : (d : Configuration) (have total : ℕ) → Kept d (trailer_gathered d have total)
unfolding trailer_gathered
kept_gathered d have total =
    kept_pick d (is_whole_trailer (take have d.block)) _ _
    (kept_after_lem d _ _ (kept_on d _ refl refl (question_kept _ _ total _ d.question)) (kept_answered _ have total _))
    (kept_on d d refl refl refl)

pub kept_trailer : (d : Configuration) (have total x : ℕ) → Kept d (push_trailer d have total x)
unfolding push_trailer
kept_trailer d have total x =
    kept_pick d (leb (length d.block) have) _ _ (kept_refuse _ have d)
    (kept_after_lem d _ _ (kept_on d _ refl (length-set d.block have x) refl) (kept_gathered _ (have + 1) total))
