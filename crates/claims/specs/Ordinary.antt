-- The ordinary caller over the reader itself: it hands a stream over in pieces of any lengths, each from the first byte not taken,
-- answers each question with the next of its answers, and tells the end after the last byte (crate reaching, Caller). What it does next
-- depends on nothing but what its last call returned: no rule of the stream stands here, no machine and no reading. Assumes nothing.
use Rattle.std.specs.Prelude.{Bool, List, [], ◌∷◌, ℕ}
use Rattle.ring.specs.declared.KeyRing.{KeyRing}
use Rattle.sections.specs.Calls.{Request, Out}
use Rattle.stream.specs.Events.{Question, LastWord}
use Rattle.state.specs.Configuration.{Configuration, configuration, fresh_reader}
use Rattle.agreement.specs.Observation.{Told}
use Rattle.agreement.specs.Run.{Invocation, same, called, observed}
use Rattle.reaching.specs.Caller.{requests_over}

unfoldable pub all_same : List Request → List Invocation
all_same [] = []
all_same (r ∷ rs) = same r ∷ all_same rs

-- a call of the reader: the word and the count that the caller sees, and the reader with its buffers after it
abbrev pub returned : KeyRing → List ℕ → Configuration → Request → Out Question Told LastWord × Configuration
returned keys uri d r = ((observed (called keys uri d r)).out, (called keys uri d r).after)

-- the caller's calls from a fresh reader, with the same buffers, ring and URI throughout
abbrev pub ordinary_calls : KeyRing → (uri h b q : List ℕ) → List ℕ → List Bool → List ℕ → List Invocation
ordinary_calls keys uri h b q lengths given stream = all_same (requests_over (returned keys uri) (configuration fresh_reader h b q) lengths given stream)
