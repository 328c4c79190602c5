-- The answers of `blif_lines::read_names`.
use Rattle.blif_lines.proofs.Lining.{passing-next, passing-last, passing-no}
use Rattle.blif_lines.proofs.read_names.Goals as goal

pub returns-in_err-v : goal.returns-in_err-v
returns-in_err-v c = rw c.from_residual.ensures (passing-no c.loop-v.invariant c.in_err-v.ensures)

pub loop-v-preserved : goal.loop-v-preserved
loop-v-preserved c = passing-next c.loop-v.invariant _ _ (rw c.in-Read.is at c.in_ok-v.ensures) c.mark.ensures

pub returns-in-Last : goal.returns-in-Last
returns-in-Last c = passing-last c.loop-v.invariant _ _ _ (rw c.in-Last.is at c.in_ok-v.ensures) c.mark_last-top.ensures
