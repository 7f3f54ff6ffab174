-- The ordinary caller: hands a stream over piece by piece, each from the first byte not taken, answers each question, and tells the
-- end after the last byte (paper 01, "How a sitting goes"). It is given the stream, the lengths of its pieces, and its answers. Whom it
-- calls is left open: what it does next depends on nothing but what its last call returned. Assumes nothing.
use Rattle.std.specs.Prelude.{Bool, List, [], ◌∷◌, ℕ, zero, suc, ◌+◌, ◌*◌, length, take, drop}
use Rattle.sections.specs.Calls.{Request, feed, answer, end, Reply, more, event, misused, Out, Standing, going, asking, over, standing_at}

-- ---- how a stream is cut

-- The next piece of what is left, by a list of lengths: so many bytes, or fewer at the stream's end; with no length given, all.
-- A length 0 gives an empty piece. What a call leaves of its piece is the beginning of the next.
abbrev pub next_piece : List ℕ → List ℕ → List ℕ
next_piece [] left = left
next_piece (n ∷ lengths) left = take n left

-- each length is used once
abbrev pub other_lengths : List ℕ → List ℕ
other_lengths [] = []
other_lengths (n ∷ lengths) = lengths

-- ---- what to do next

-- After a question an answer is due, after a last word nothing; else reading goes on. After a refused call the caller gives up.
abbrev pub after_word : {Q E L : Type 0} → Reply Q E L → Standing
after_word more = going
after_word (event e) = standing_at e
after_word (misused n) = over

-- to call no more; or to make a request, with the lengths and the answers that are left after it
pub data Plan : Type 0 where
  halt : Plan
  make : Request → List ℕ → List Bool → Plan

-- The next answer to a question; while anything is left, a feed of the next piece; the end once nothing is left to feed; and no more
-- after a last word, or at a question with no answer left.
abbrev pub plan : Standing → List ℕ → List Bool → List ℕ → Plan
plan asking lengths [] left = halt
plan asking lengths (a ∷ answers) left = make (answer a) lengths answers
plan going lengths answers [] = make end lengths answers
plan going lengths answers (b ∷ bs) = make (feed (next_piece lengths (b ∷ bs))) (other_lengths lengths) answers
plan over lengths answers left = halt

-- ---- the requests

-- `serve x r`: what a request r returns to the caller, and what the one called is after it; the caller does not look into that
module _ {X Q E L : Type 0} (serve : X → Request → Out Q E L × X) where
  -- One request, where `left` is what of the stream is not taken; and then those that `next` makes of what the call returned: they
  -- go on from the first byte that is not taken now.
  abbrev pub carried : X → List ℕ → Plan → (X → Standing → List ℕ → List Bool → List ℕ → List Request) → List Request
  carried x left halt next = []
  carried x left (make r lengths answers) next =
      let t = serve x r in
      r ∷ next t.1 (after_word t.0.0) lengths answers (drop t.0.1 left)

  -- At most so many.
  unfoldable pub hand_over : ℕ → X → Standing → List ℕ → List Bool → List ℕ → List Request
  hand_over zero x now lengths answers left = []
  hand_over (suc k) x now lengths answers left = carried x left (plan now lengths answers left) (hand_over k)

  -- Over a whole stream. Two calls will do for each piece, its feed and perhaps an answer, and one for the end; and there are no more
  -- pieces than lengths and bytes, as a feed of a byte or more takes a byte or more.
  unfoldable pub requests_over : X → List ℕ → List Bool → List ℕ → List Request
  requests_over x lengths answers stream = hand_over (suc (2 * (length lengths + length stream))) x going lengths answers stream
