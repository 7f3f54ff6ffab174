-- THAT THE CLAIMS ON BYTES SPEAK OF SOMETHING: an exported call that meets what they assume. Assumes nothing.
use Rattle.std.specs.Prelude.{◌≡◌, List, [], ◌∷◌, ℕ, ◌≤◌, length, replicate}
use Rattle.sections.specs.Calls.{end}
use Rattle.stream.specs.Limits.{head_limit, block_limit}
use Rattle.state.specs.Configuration.{fresh_reader}
use Rattle.layout.specs.State.{state_size, stored, decoded}
use Rattle.results.specs.Results.{result_size}
use Rattle.reader_export.specs.Loan.{exported}
use Rattle.byte_claims.specs.ExportedCalls.{Held, ExportedCall, same, lent_to, Calls}

-- the end of the stream at once
abbrev pub the_end : ExportedCall
the_end = same (replicate result_size 0) end

-- with the bytes of a fresh reader, and any working buffers of the least lengths, what HoldsOnBytes assumes
module _ (h b q : List ℕ) where
  abbrev pub held : Held
  held = record { state = stored fresh_reader (replicate state_size 0); head = h; block = b; question = q }

  pub record BytesMet : Type 0 where
    pub long : state_size ≤ length held.state
    pub fresh : decoded held.state ≡ fresh_reader
    pub calls : Calls [] [] held (the_end ∷ []) (exported (lent_to [] [] held the_end) end ∷ [])

abbrev pub CallsAreMet : Type 0
CallsAreMet = (h b q : List ℕ) → length h ≡ head_limit → length b ≡ block_limit → length q ≡ head_limit → BytesMet h b q
