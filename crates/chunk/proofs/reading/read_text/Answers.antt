-- The hex digits in front, as a number or not, decide. Assumes nothing.
use borrow.Author.Rules.{rules}
use Rattle.chunk.proofs.ReadLaws.{digits_within, text_is}
use Rattle.chunk.proofs.reading.read_text.Goals as goal

pub slice_bounds-hex-end : goal.slice_bounds-hex-end
slice_bounds-hex-end c = let h = digits_within _ _ c.run_end-end.ensures in search rules

pub slice_bounds-read_extension-count : goal.slice_bounds-read_extension-count
slice_bounds-read_extension-count c = digits_within _ _ c.run_end-end.ensures

pub slice_bounds-read_extension-start : goal.slice_bounds-read_extension-start
slice_bounds-read_extension-start c = let h = digits_within _ _ c.run_end-end.ensures in search rules

pub returns-in_err-size : goal.returns-in_err-size
returns-in_err-size c = rw (c.from_residual.ensures, text_is _ _ c.run_end-end.ensures c.hex.ensures.answers, ← c.ok.ensures.value, c.in_err-size.was)

pub returns-in_err-carried : goal.returns-in_err-carried
returns-in_err-carried c =
    rw (c.from_residual-in_err-carried.ensures, text_is _ _ c.run_end-end.ensures c.hex.ensures.answers, ← c.ok.ensures.value, c.in_ok-size.was, ← c.read_extension.ensures, c.in_err-carried.was)

pub returns : goal.returns
returns c =
    rw (text_is _ _ c.run_end-end.ensures c.hex.ensures.answers, ← c.ok.ensures.value, c.in_ok-size.was, ← c.read_extension.ensures, c.in_ok-carried.was)
