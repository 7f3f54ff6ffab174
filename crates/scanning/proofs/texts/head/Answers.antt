-- The form of the first state has just the good texts. Assumes nothing.
use Rattle.text_forms.proofs.Exact.{exact_forms}
use Rattle.scanning.proofs.AnswerLaws.{answers, head_is}
use Rattle.scanning.proofs.texts.head.Goals as goal

pub returns : goal.returns
returns c = let r = answers exact_forms.heads _ _ _ head_is c.scan.ensures in record { answers = r.0; exactly = r.1 }
