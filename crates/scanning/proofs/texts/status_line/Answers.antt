-- The form of the first state has just the good texts. Assumes nothing.
use Rattle.text_forms.proofs.Exact.{exact_forms}
use Rattle.scanning.proofs.AnswerLaws.{answers, status_is}
use Rattle.scanning.proofs.texts.status_line.Goals as goal

pub returns : goal.returns
returns c = let r = answers exact_forms.status_lines _ _ _ status_is c.scan.ensures in record { answers = r.0; exactly = r.1 }
