-- KEPT FROM BEFORE: what a request leaves as it was, and what it puts in the place of the rest, said of any list of calls. Assumes nothing.
use Rattle.std.specs.Prelude.{false, List, ◌++◌, ◌≡◌, ℕ, ◌-◌, length, take}
use Rattle.ring.specs.Keys.{ring_of, terms_of}
use Rattle.ring.specs.declared.KeyRing.{KeyRing}
use Rattle.sections.specs.Calls.{Request}
use Rattle.sections.specs.Reading.{Log}
use Rattle.sections.specs.Resuming.{Begins, events}
use Rattle.stream.specs.Events.{Question, Release, LastWord}
use Rattle.state.specs.Configuration.{Configuration}
use Rattle.calls.specs.Response.{unchanged}
use Rattle.agreement.specs.Plain.{told_log}
use Rattle.agreement.specs.Run.{Invocation, called}
use Rattle.exactness.specs.AskedFor.{uri_of}
use Rattle.exactness.specs.Beginning.{Beginning, written, head_in, announces}
use Rattle.exactness.specs.Good.{Good, GoodTrailer, claims}
use Rattle.kept.specs.Kept.{NeverRefused, NeverRefusedAt, as_another_show, NeverClosed}
use Rattle.kept.specs.Older.{older_reading}
use Rattle.kept.specs.OtherLimits.{paper_limits, reading_under}
use Rattle.kept.specs.Unasked.{unasked_reading}
use Rattle.kept.specs.Unchecked.{unchecked_reading}
use Rattle.kept.specs.WholeOnly.{whole_only_reading}
use Rattle.claims.specs.Runs.{words, taken, answers, ended}

module _ (keys : KeyRing) (uri h b q : List ℕ) (ks : List Invocation) where
  -- of the bytes that were taken, by paper 01's rule before request #102, that every doubled name is refused with 3, and all others as they
  -- are now
  abbrev pub read_before : Log Question Release LastWord
  read_before = older_reading (terms_of keys uri) (taken keys uri h b q ks) (answers keys uri h b q ks) (ended keys uri h b q ks)

  -- and by the rules as they are now but for request #105's: whatever show comes is read, so that no URI is asked for
  abbrev pub read_unasked : Log Question Release LastWord
  read_unasked = unasked_reading (ring_of keys) (taken keys uri h b q ks) (answers keys uri h b q ks) (ended keys uri h b q ks)

  -- and under paper 01's limits of heads and trailers, before request #108
  abbrev pub read_under_paper : Log Question Release LastWord
  read_under_paper = reading_under paper_limits (terms_of keys uri) (taken keys uri h b q ks) (answers keys uri h b q ks) (ended keys uri h b q ks)

  -- and before request #101: a good trailer closes the show, and what head and trailer say of its end is not read
  abbrev pub read_unchecked : Log Question Release LastWord
  read_unchecked = unchecked_reading (terms_of keys uri) (taken keys uri h b q ks) (answers keys uri h b q ks) (ended keys uri h b q ks)

  -- and before request #104: every 206 is refused with 4, and no line has an `ouihash`
  abbrev pub read_whole_only : Log Question Release LastWord
  read_whole_only = whole_only_reading (terms_of keys uri) (taken keys uri h b q ks) (answers keys uri h b q ks) (ended keys uri h b q ks)

  pub record KeptFromBefore : Type 0 where
    -- #102: where the first of these readings knows no refusal 3, the events are its events, each at its place and with what it hands out
    pub same_events : NeverRefused 3 read_before → events (words keys uri h b q ks) ≡ told_log read_before
    -- #105: where the head's URI is the asked one, nothing changes
    pub same_where_asked : uri_of (taken keys uri h b q ks) ≡ uri → events (words keys uri h b q ks) ≡ told_log read_unasked
    -- and where it is another, a head that was asked about, or was refused with 12, is refused with 16 at the same byte, and nothing follows; what
    -- was refused with 3, 4 or 5, or did not come to its end, is told of as before
    pub refused_where_not : (uri_of (taken keys uri h b q ks) ≡ uri → ⊥) → events (words keys uri h b q ks) ≡ told_log (as_another_show read_unasked)
    -- #108: where the reading under those limits knows no refusal 3, and none of 6 at the place that was a trailer's limit, nothing changes
    pub same_under_paper : NeverRefused 3 read_under_paper → NeverRefusedAt 6 paper_limits.bytes read_under_paper → events (words keys uri h b q ks) ≡ told_log read_under_paper
    -- and of any stream all its events but the last are the first events now: where it refused, more may be read
    pub none_lost : Begins (told_log (take (length read_under_paper - 1) read_under_paper)) (events (words keys uri h b q ks))
    -- #101: where the reading without the check of the end did not close, nothing changes
    pub same_unclosed : NeverClosed read_unchecked → events (words keys uri h b q ks) ≡ told_log read_unchecked
    -- nor where a good beginning and a good trailer have none of the three fields in head and trailer: "*closed* as today"
    pub same_unclaimed : (w : Beginning) (t rest : List ℕ) → written w ++ (t ++ rest) ≡ taken keys uri h b q ks
        → Good (terms_of keys uri) w → announces w ≡ 0 → GoodTrailer t → claims (head_in w) t ≡ false → events (words keys uri h b q ks) ≡ told_log read_unchecked
    -- and of any stream all its events but the last are the first events now: nothing that was handed out is lost
    pub none_lost_unchecked : Begins (told_log (take (length read_unchecked - 1) read_unchecked)) (events (words keys uri h b q ks))
    -- #104: where the reading without parts knows no refusal 4 and none of 6, nothing changes: a whole answer is read as before
    pub same_whole : NeverRefused 4 read_whole_only → NeverRefused 6 read_whole_only → events (words keys uri h b q ks) ≡ told_log read_whole_only
    -- and of any stream all its events but the last are the first events now
    pub none_lost_whole : Begins (told_log (take (length read_whole_only - 1) read_whole_only)) (events (words keys uri h b q ks))

-- #108: a head or a question buffer as long as paper 01 asked, which was enough before, is refused with 2 now
pub record OlderBuffersRefused (keys : KeyRing) (uri : List ℕ) (d : Configuration) (r : Request) : Type 0 where
  pub head : length d.head ≡ paper_limits.bytes → called keys uri d r ≡ unchanged 2 d
  pub question : length d.question ≡ paper_limits.bytes → called keys uri d r ≡ unchanged 2 d
