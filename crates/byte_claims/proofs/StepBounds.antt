-- What every byte of a stream keeps to, whatever the state: no buffer changes its length, and the length of a question that is asked lies
-- within the question buffer. Assumes nothing.
use mathlib.Core.Bool.{Bool, true, false}
use mathlib.Core.List.{List, [], ◌∷◌}
use mathlib.Core.Path.{◌≡◌, refl, ap}
use native.Mathlib.Omega.{arith}
use borrow.Author.Tests.{leb-true}
use Prim.Native.Nat.{ℕ, ◌+◌, ◌≤◌}
use lib.Dec.{eqb, leb}
use lib.ListN.{length, take, set, get_or}
use Rattle.octets.specs.Choice.{pick}
use Rattle.blocks.specs.Writing.{message_written, at_front}
use Rattle.number.specs.Writing.{written}
use Rattle.chunk.specs.declared.judging.Line as Chunk
use Rattle.refusals.specs.declared.Refusal.{Refusal}
use Rattle.std.specs.Prelude.{Option, Some, None, Result, Ok, Err}
use Rattle.stream.specs.Blocks.{is_whole_line}
use Rattle.stream.specs.Bytes.{same}
use Rattle.stream.specs.Limits.{line_limit}
use Rattle.stream.specs.Lines.{crlf}
use Rattle.stream.specs.Terms.{Terms}
use Rattle.stream.specs.Trailer.{is_whole_trailer}
use Rattle.state.specs.Configuration.{Configuration, Next}
use Rattle.state.specs.declared.phase.Phase.{Phase}
use Rattle.state.specs.declared.phase.Phase.TheVariants as P
use Rattle.state.proofs.KeptLaws.{desk_of, Kept}
use Rattle.line_steps.specs.FirstLine.{first_answered, first_gathered, push_first_line}
use Rattle.line_steps.specs.NextLine.{message_now, next_answered, next_gathered, push_next_line}
use Rattle.line_steps.specs.NextLine as Line
use Rattle.line_steps.proofs.KeptLines.{kept_first_line, kept_next_line}
use Rattle.body_steps.specs.Data.{push_data, push_data_end}
use Rattle.body_steps.proofs.KeptBody.{kept_data, kept_data_end}
use Rattle.ends.specs.declared.trailer.Asked as End
use Rattle.ends.proofs.QuestionKept.{Within, judgement_kept}
use Rattle.trailer_steps.specs.Trailer.{trailer_answered, trailer_gathered, push_trailer}
use Rattle.trailer_steps.proofs.KeptTrailer.{kept_trailer}
use Rattle.reader.specs.Feed.{push_at}
use Rattle.byte_claims.proofs.HeadBounds.{Long, NamedNext, named_pick, named_refuse, head_long, head_named}

-- ---- a line

count_fits : (m out : List ℕ) → (message_written m out).count ≤ length out
unfolding message_written
count_fits m out = by (leb (length m) (length out)) refl
  where
    by : (t : Bool) → leb (length m) (length out) ≡ t → (pick t (written (length m) (at_front m out)) (written 0 out)).count ≤ length out
    by true e = leb-true (length m) (length out) e
    by false e = omega arith

named_first : (d e : Configuration) (judged : Result Chunk.Line Refusal) → NamedNext (first_answered d judged) e
unfolding first_answered
named_first d e (Err why) = named_refuse why 0 d e
named_first d e (Ok line) = tt

named_next : (d e : Configuration) (size : ℕ) (judged : Result Chunk.Line Refusal) → e.question ≡ d.question → NamedNext (next_answered d size judged) e
unfolding next_answered Line.asked message_now
named_next d e size (Err why) p = named_refuse why size d e
named_next d e size (Ok line) p = rw p (count_fits _ d.question)

-- ---- the trailer

named_trailer : (d e : Configuration) (have total : ℕ) (judged : Result (Option End.Asked) Refusal) → Within (length e.question) judged → NamedNext (trailer_answered d have total judged) e
unfolding trailer_answered
named_trailer d e have total (Ok None) w = tt
named_trailer d e have total (Ok (Some a)) w = w
named_trailer d e have total (Err why) w = named_refuse why have d e

-- ---- any byte

of_kept : {d : Configuration} {n : Next} → Kept d n → Long d (desk_of n)
of_kept k = record { head = ap length k.head; block = k.block; question = k.question }

pub long_push : (terms : Terms) (d : Configuration) (p : Phase) (x : ℕ) → Long d (desk_of (push_at terms p d x))
unfolding push_at
long_push terms d (P.Head have) x = head_long terms d have x
long_push terms d (P.HeadAsked n) x = record { head = refl; block = refl; question = refl }
long_push terms d (P.FirstLine have) x = of_kept (kept_first_line d have x)
long_push terms d (P.Data have size) x = of_kept (kept_data d have size x)
long_push terms d (P.DataEnd have size) x = of_kept (kept_data_end d have size x)
long_push terms d (P.NextLine have size) x = of_kept (kept_next_line d have size x)
long_push terms d (P.BlockAsked size next) x = record { head = refl; block = refl; question = refl }
long_push terms d (P.Trailer have total) x = of_kept (kept_trailer d have total x)
long_push terms d (P.EndAsked have total) x = record { head = refl; block = refl; question = refl }
long_push terms d (P.Closed total) x = record { head = refl; block = refl; question = refl }
long_push terms d (P.Complete total) x = record { head = refl; block = refl; question = refl }
long_push terms d (P.Refused n) x = record { head = refl; block = refl; question = refl }

pub named_push : (terms : Terms) (d : Configuration) (p : Phase) (x : ℕ) → NamedNext (push_at terms p d x) d
unfolding push_at push_data push_data_end push_first_line first_gathered push_next_line next_gathered push_trailer trailer_gathered
named_push terms d (P.Head have) x = head_named terms d have x
named_push terms d (P.HeadAsked n) x = tt
named_push terms d (P.FirstLine have) x =
    named_pick d (leb line_limit have) _ _ (named_refuse _ 0 d d)
    (named_pick d (is_whole_line (take (have + 1) (set d.reader.line have x))) _ _ (named_first _ d _) tt)
named_push terms d (P.Data have size) x = named_pick d (leb (length d.block) have) _ _ (named_refuse _ have d d) tt
named_push terms d (P.DataEnd have size) x =
    named_pick d (eqb have 0) _ _ tt (named_pick d (same (get_or d.reader.line 0 0 ∷ x ∷ []) crlf) _ _ tt (named_refuse _ size d d))
named_push terms d (P.NextLine have size) x =
    named_pick d (leb line_limit have) _ _ (named_refuse _ size d d)
    (named_pick d (is_whole_line (take (have + 1) (set d.reader.line have x))) _ _ (named_next _ d size _ refl) tt)
named_push terms d (P.BlockAsked size next) x = tt
named_push terms d (P.Trailer have total) x =
    let text = take (have + 1) (set d.block have x) in
    named_pick d (leb (length d.block) have) _ _ (named_refuse _ have d d)
    (named_pick d (is_whole_trailer text) _ _ (named_trailer _ d (have + 1) total _ (judgement_kept _ _ total _ d.question).within) tt)
named_push terms d (P.EndAsked have total) x = tt
named_push terms d (P.Closed total) x = tt
named_push terms d (P.Complete total) x = tt
named_push terms d (P.Refused n) x = tt
