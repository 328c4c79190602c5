-- `blif_lines::end_row` meets its contract. Assumes nothing.
use Rattle.blif_lines.proofs.Rowing.{end-spaceless, end-wordless, end-got, end-other}
use Rattle.blif_lines.proofs.end_row.Goals as goal

pub returns-in_err-p : goal.returns-in_err-p
returns-in_err-p c = rw c.from_residual.ensures (end-spaceless c.args.s.now c.args.at c.args.r c.in_err-p.ensures)

pub returns-in_err-q : goal.returns-in_err-q
returns-in_err-q c =
    rw c.from_residual-in_err-q.ensures (end-wordless c.args.s.now c.args.at c.args.r c.in_ok-p.p c.in_ok-p.ensures c.in_err-q.ensures)

pub returns-in-Line : goal.returns-in-Line
returns-in-Line c = end-got c.args.s.now c.args.at c.args.r c.in_ok-p.p c.in-Line.q c.in_ok-p.ensures (rw c.in-Line.is at c.in_ok-q.ensures)

pub returns-in_default : goal.returns-in_default
returns-in_default c =
    end-other c.args.s.now c.args.at c.args.r c.in_ok-p.p _ c.in_ok-p.ensures c.in_ok-q.ensures c.in_default.not-Line
