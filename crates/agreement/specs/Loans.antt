-- What a call is lent, and whether it will do (paper 01, "How a sitting goes" and "When the reader says no"). Assumes nothing.
use Rattle.std.specs.Prelude.{Bool, true, ◌&&◌, List, ℕ, leb, length}
use Rattle.ring.specs.declared.KeyRing.{KeyRing}
use Rattle.sections.specs.Calls.{Request, feed, answer, end}
use Rattle.stream.specs.Limits.{head_limit, block_limit, ring_limit}

-- "head hold (at least 8,192 bytes), block hold (at least 65,536), question hold (at least 8,192)"; request #108: "head and question holds to
-- 32,768"
unfoldable pub have_room : List ℕ → List ℕ → List ℕ → Bool
have_room h b q = leb head_limit (length h) && (leb block_limit (length b) && leb head_limit (length q))

-- "feed is lent the key ring too", of 0 to 16 records
abbrev pub ring_fits : KeyRing → Request → Bool
ring_fits ring (feed piece) = leb ring.count ring_limit
ring_fits ring (answer good) = true
ring_fits ring end = true

-- whether what a call is lent will do; where not, it is refused with 2
unfoldable pub loan_fits : List ℕ → List ℕ → List ℕ → KeyRing → Request → Bool
loan_fits h b q ring r = have_room h b q && ring_fits ring r
