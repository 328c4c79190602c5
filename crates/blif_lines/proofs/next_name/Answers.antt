-- `blif_lines::next_name` meets its contract. Assumes nothing.
use Rattle.blif_lines.proofs.Lining.{turn_is, turn-none}
use Rattle.blif_lines.proofs.next_name.Goals as goal

pub returns-in_err-a : goal.returns-in_err-a
returns-in_err-a c = rw c.from_residual.ensures (turn-none c.args.s.now c.args.at c.args.least c.in_err-a.ensures)

pub returns : goal.returns
returns c = rw c.turn_of.ensures (turn_is c.args.s.now c.args.at c.args.least c.in_ok-a.a c.in_ok-a.e c.in_ok-a.ensures)
