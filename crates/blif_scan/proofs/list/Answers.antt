-- `blif_scan::list` meets its contract: the keyword, then the names. Assumes nothing.
use Rattle.blif_scan.proofs.Heading.{list-names, list-none, list-cut, list-other}
use Rattle.blif_scan.proofs.list.Goals as goal

pub returns-in_err-p : goal.returns-in_err-p
returns-in_err-p c = rw c.from_residual.ensures (list-other c.args.w.now c.args.letter c.args.s.now c.args.at c.in_err-p.ensures)

pub returns-in-Space : goal.returns-in-Space
returns-in-Space c = list-names _ c.args.letter _ _ c.in-Space.p c.turns.result (rw c.in-Space.is at c.in_ok-p.ensures) c.turns.ensures

pub returns-in-Line : goal.returns-in-Line
returns-in-Line c = list-none _ c.args.letter _ _ c.in-Line.p (rw c.in-Line.is at c.in_ok-p.ensures)

pub returns-in-Finish : goal.returns-in-Finish
returns-in-Finish c = list-cut c.args.w.now c.args.letter c.args.s.now c.args.at (rw c.in-Finish.is at c.in_ok-p.ensures)
