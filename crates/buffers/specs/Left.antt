-- What a list of calls leaves in the three lent buffers, by the functions that the contracts of `feed`, `answer` and `end` name (crate
-- agreement, Run). Assumes nothing.
use Rattle.std.specs.Prelude.{List, [], ◌∷◌, ℕ}
use Rattle.ring.specs.declared.KeyRing.{KeyRing}
use Rattle.stream.specs.Buffers.{Buffers}
use Rattle.state.specs.Configuration.{Configuration, configuration, fresh_reader}
use Rattle.agreement.specs.Run.{Invocation, run_call}

abbrev pub buffers : List ℕ → List ℕ → List ℕ → Buffers
buffers h b q = record { head = h; block = b; question = q }

-- the buffers alone
abbrev pub buffers_in : Configuration → Buffers
buffers_in d = buffers d.head d.block d.question

-- the reader and its buffers after one call
unfoldable pub left_by : KeyRing → List ℕ → Configuration → Invocation → Configuration
left_by keys uri d k = (run_call keys uri d k).after

-- one call after the other
unfoldable pub left_from : KeyRing → List ℕ → Configuration → List Invocation → Configuration
left_from keys uri d [] = d
left_from keys uri d (k ∷ ks) = left_from keys uri (left_by keys uri d k) ks

-- after a list of calls from a fresh reader, lent buffers of any first content
unfoldable pub left_after : KeyRing → List ℕ → List ℕ → List ℕ → List ℕ → List Invocation → Buffers
left_after keys uri h b q ks = buffers_in (left_from keys uri (configuration fresh_reader h b q) ks)
