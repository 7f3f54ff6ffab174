-- What one byte of the trailer does (paper 01, "Blocks"): it is gathered, and the trailer that is whole with it is judged, and with it the end
-- of the show (request #101). In a state that no stream leads to, with a count past the buffer, it is refused as too long. Assumes nothing.
use Rattle.std.specs.Prelude.{ℕ, ◌+◌, leb, length, take, set, Option, Some, None, Result, Ok, Err}
use Rattle.octets.specs.Choice.{pick}
use Rattle.refusals.specs.Refusals.{placed}
use Rattle.sha256.specs.Midstate.{summed}
use Rattle.ends.specs.Judgement.{Judgement, trailer_judged}
use Rattle.ends.specs.declared.trailer.Asked.{Asked}
use Rattle.refusals.specs.declared.Refusal.{Refusal}
use Rattle.handing.specs.Handing.{accepted_head}
use Rattle.stream.specs.Limits.{head_limit}
use Rattle.stream.specs.Trailer.{is_whole_trailer}
use Rattle.state.specs.Configuration.{Configuration, configuration, in_phase, moved, Next, on, stop, refuse, no_signature}
use Rattle.state.specs.declared.phase.Phase.TheVariants as P
use Rattle.state.specs.declared.word.Word.TheVariants as W

-- the judgement of the trailer, the first `have` bytes of the block buffer, by the accepted head and the SHA-256 of the body
abbrev pub judgement_now : Configuration → ℕ → ℕ → Judgement
judgement_now d have total =
    trailer_judged (accepted_head d.head d.reader.fixed.accepted) (take have d.block) total (summed d.reader.chain.body) d.question

-- the answer, with the question buffer as judged; a refusal has the trailer of `have` bytes pending
unfoldable pub trailer_answered : Configuration → ℕ → ℕ → Result (Option Asked) Refusal → Next
trailer_answered d have total (Ok None) = stop (W.Closed total) no_signature (moved d (P.Closed total))
trailer_answered d have total (Ok (Some a)) =
    stop (W.Question a.length d.reader.fixed.key) a.signature (moved d (P.EndAsked have total))
trailer_answered d have total (Err why) = refuse why have d

-- the buffers after the judgement: a question is written, any other answer changes nothing
abbrev pub judged_at : Configuration → ℕ → ℕ → Judgement → Next
judged_at d have total j =
    trailer_answered (configuration d.reader d.head d.block j.question) have total j.answer

-- the first `have` bytes of the block buffer are the trailer so far
unfoldable pub trailer_gathered : Configuration → ℕ → ℕ → Next
trailer_gathered d have total =
    pick (is_whole_trailer (take have d.block)) (judged_at d have total (judgement_now d have total)) (on d)

unfoldable pub push_trailer : Configuration → ℕ → ℕ → ℕ → Next
push_trailer d have total x =
    pick (leb (length d.block) have)
    (refuse (placed 6 head_limit) have d)
    (trailer_gathered
    (configuration (in_phase d.reader (P.Trailer (have + 1) total)) d.head (set d.block have x) d.question)
    (have + 1)
    total)
