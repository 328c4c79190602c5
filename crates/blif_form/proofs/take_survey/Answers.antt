-- `blif_form::take_survey` meets its contract: the head and the blocks that are found make the text, and where one is not found no text of the
-- form without a gap is there. Assumes nothing.
use native.Mathlib.Omega.{arith}
use Rattle.blif_form.proofs.Whole.{surveyed, headless, blockless}
use Rattle.blif_form.proofs.take_survey.Goals as goal

pub returns-in_err-h : goal.returns-in_err-h
returns-in_err-h c = rw c.from_residual.ensures (headless c.in_err-h.ensures)

pub returns-in_err-b : goal.returns-in_err-b
returns-in_err-b c = rw c.from_residual-in_err-b.ensures (blockless (omega arith) c.in_ok-h.ensures.0 c.in_err-b.ensures)

pub returns : goal.returns
returns c = let h = c.in_ok-h.ensures in surveyed h.0 h.2 h.3 c.in_ok-b.ensures c.max.ensures
