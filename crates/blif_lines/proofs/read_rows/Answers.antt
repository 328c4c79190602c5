-- The answers of `blif_lines::read_rows`.
use mathlib.Core.Path.{sym, ◌∙◌}
use Rattle.blif_lines.proofs.Rowing.{rowing-next, rowing-got, rowing-no}
use Rattle.blif_lines.proofs.read_rows.Goals as goal

pub returns-in_err-p : goal.returns-in_err-p
returns-in_err-p c =
    rw c.from_residual.ensures (rowing-no c.loop-marks.invariant (sym c.is_point.ensures ∙ c.loop-marks-test.true) c.in_err-p.ensures)

pub loop-marks-preserved : goal.loop-marks-preserved
loop-marks-preserved c = rowing-next c.loop-marks.invariant _ c.in_ok-p.ensures

pub returns : goal.returns
returns c = rowing-got c.loop-marks.invariant (sym c.is_point.ensures ∙ c.loop-marks-test.false)
