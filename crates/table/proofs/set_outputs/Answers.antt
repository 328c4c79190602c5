-- `table::set_outputs` meets its contract. Assumes nothing.
use Rattle.std.proofs.Common.{refl}
use Rattle.table.specs.Table.{with_tall, set_tall}
use Rattle.table.proofs.set_outputs.Goals as goal

pub returns : goal.returns
unfolding set_tall
returns c =
    λ t words marks g h. rw (← h.tall) (c.number_line.ensures (with_tall t _) words marks
    (record { wide = h.wide; tall = refl; stated = h.stated; lines = h.lines; rows = h.rows; kept = h.kept; cubes = h.cubes; masks = h.masks }))
