-- The label, and the base64 after it. Assumes nothing.
use mathlib.Core.Path.{sym, ◌∙◌}
use Rattle.end_fields.proofs.TextLaws.{no_label, digest_read}
use Rattle.end_fields.proofs.texts.read_digest.Goals as goal

pub returns-then-not-starts_with : goal.returns-then-not-starts_with
returns-then-not-starts_with c = no_label _ (sym c.starts_with.ensures ∙ c.if-not-starts_with.true)

pub returns : goal.returns
returns c = rw (c.bytes.ensures.read, c.part.ensures) (digest_read _ (sym c.starts_with.ensures ∙ c.if-not-starts_with.false))
