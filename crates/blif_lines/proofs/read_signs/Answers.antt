-- The answers of `blif_lines::read_signs`.
use Rattle.blif_lines.proofs.Rowing.{signs-none, signs-next, signs-stop}
use Rattle.blif_lines.proofs.read_signs.Goals as goal

pub loop-i-init : goal.loop-i-init
loop-i-init c = signs-none _ _ _ _

pub returns-in_err-b : goal.returns-in_err-b
returns-in_err-b c = rw c.from_residual.ensures (signs-stop c.loop-i.invariant _ c.loop-i-test.true c.in_err-b.ensures)

pub loop-i-preserved : goal.loop-i-preserved
loop-i-preserved c = signs-next c.loop-i.invariant _ _ c.in_ok-b.ensures c.mark_sign.ensures
