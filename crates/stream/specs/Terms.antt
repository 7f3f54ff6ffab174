-- What the caller fixes for a stream before its first byte: whom it trusts, and what it asked for. Assumes nothing.
use Rattle.std.specs.Prelude.{List, ℕ}
use Rattle.stream.specs.Ring.{Ring}

-- Paper 01, "The head": the key ring. Request #105: "The caller hands in the URI it asked for", bytes that nothing is trimmed of.
pub record Terms : Type 0 where
  pub ring : Ring
  pub uri : List ℕ
