-- `blif_lines::read_row` meets its contract. Assumes nothing.
use Rattle.blif_lines.proofs.Rowing.{row-signless, row_is}
use Rattle.blif_lines.proofs.read_row.Goals as goal

pub returns-in_err-p : goal.returns-in_err-p
returns-in_err-p c = rw c.from_residual.ensures (row-signless c.in_err-p.ensures)

pub returns : goal.returns
returns c = row_is c.in_ok-p.ensures c.end_row.result c.end_row.ensures
