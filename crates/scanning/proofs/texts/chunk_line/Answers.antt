-- The form of the first state has just the good texts. Assumes nothing.
use mathlib.Core.Path.{refl}
use Rattle.text_forms.proofs.Exact.{exact_forms}
use Rattle.scanning.proofs.AnswerLaws.{answers}
use Rattle.scanning.proofs.texts.chunk_line.Goals as goal

pub returns : goal.returns
returns c = let r = answers exact_forms.chunk_lines _ _ _ refl c.scan.ensures in record { answers = r.0; exactly = r.1 }
