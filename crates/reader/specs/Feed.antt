-- A feed (paper 01, "How a sitting goes" and "When the reader says no"). Assumes nothing.
use Rattle.std.specs.Prelude.{◌&&◌, List, ℕ, leb}
use Rattle.octets.specs.Choice.{pick}
use Rattle.refusals.specs.Refusals.{plain}
use Rattle.ring.specs.Keys.{terms_of}
use Rattle.ring.specs.declared.KeyRing.{KeyRing}
use Rattle.stream.specs.Limits.{ring_limit}
use Rattle.stream.specs.Terms.{Terms}
use Rattle.state.specs.Configuration.{Configuration, Next, stop, no_signature}
use Rattle.state.specs.Run.{Fed, more, event, run_of}
use Rattle.state.specs.declared.phase.Phase.{Phase}
use Rattle.state.specs.declared.phase.Phase.TheVariants as P
use Rattle.state.specs.declared.word.Word.TheVariants as W
use Rattle.head_steps.specs.HeadByte.{push_head}
use Rattle.line_steps.specs.FirstLine.{push_first_line}
use Rattle.line_steps.specs.NextLine.{push_next_line}
use Rattle.body_steps.specs.Data.{push_data, push_data_end}
use Rattle.trailer_steps.specs.Trailer.{push_trailer}
use Rattle.calls.specs.Response.{Response, response, telling, unchanged, fits, is_reading, recalled}

-- one byte, by the phase; a feed pushes none where a question is open or the last word is said
unfoldable pub push_at : Terms → Phase → Configuration → ℕ → Next
push_at terms (P.Head have) d x = push_head terms d have x
push_at terms (P.HeadAsked n) d x = stop (W.Refused (plain 1)) no_signature d
push_at terms (P.FirstLine have) d x = push_first_line d have x
push_at terms (P.Data have size) d x = push_data d have size x
push_at terms (P.DataEnd have size) d x = push_data_end d have size x
push_at terms (P.NextLine have size) d x = push_next_line d have size x
push_at terms (P.BlockAsked size next) d x = stop (W.Refused (plain 1)) no_signature d
push_at terms (P.Trailer have total) d x = push_trailer d have total x
push_at terms (P.EndAsked have total) d x = stop (W.Refused (plain 1)) no_signature d
push_at terms (P.Closed total) d x = stop (W.Refused (plain 1)) no_signature d
push_at terms (P.Complete total) d x = stop (W.Refused (plain 1)) no_signature d
push_at terms (P.Refused n) d x = stop (W.Refused (plain 1)) no_signature d

abbrev pub push_byte : Terms → Configuration → ℕ → Next
push_byte terms d x = push_at terms d.reader.phase d x

-- "takes bytes up to the first event, or all of them"; "with no event the word is more"
abbrev pub fed : Fed → Response
fed (more taken d) = telling W.More taken d
fed (event w signature taken d) = response w taken signature d

unfoldable pub taken_from : Terms → Configuration → List ℕ → Response
taken_from terms d piece = fed (run_of (push_byte terms) d 0 piece)

-- 2 where "a hold is shorter" or "a lent ring has over 16 records"; then 1 for a "feed with a question open" or "any call after a
-- final event"
unfoldable pub feed_of : KeyRing → List ℕ → Configuration → List ℕ → Response
feed_of ring uri d piece =
    pick (fits d && leb ring.count ring_limit)
    (pick (is_reading d.reader.phase) (taken_from (terms_of ring uri) (recalled d) piece) (unchanged 1 d))
    (unchanged 2 d)
