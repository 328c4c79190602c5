-- The answers of `blif_scan::turns`.
use Rattle.blif_scan.proofs.Heading.{turn-none, turn-next, turn_last, turn-cut, turn-other}
use Rattle.blif_scan.proofs.turns.Goals as goal

pub loop-q-init : goal.loop-q-init
loop-q-init c = turn-none c.args.letter c.args.s.now c.args.at

pub returns-in_err-q : goal.returns-in_err-q
returns-in_err-q c = rw c.from_residual.ensures (turn-other _ _ _ _ _ c.loop-q.invariant c.in_err-q.ensures)

pub loop-q-preserved : goal.loop-q-preserved
loop-q-preserved c = turn-next _ _ _ _ _ c.loop-q.invariant _ (rw c.in-Space.is at c.in_ok-q.ensures)

pub returns-in-Line : goal.returns-in-Line
returns-in-Line c = turn_last _ _ _ _ _ c.loop-q.invariant _ (rw c.in-Line.is at c.in_ok-q.ensures)

pub returns-in-Finish : goal.returns-in-Finish
returns-in-Finish c = turn-cut _ _ _ _ _ c.loop-q.invariant (rw c.in-Finish.is at c.in_ok-q.ensures)
