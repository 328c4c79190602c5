-- `table::set_inputs` meets its contract. Assumes nothing.
use Rattle.std.proofs.Common.{refl}
use Rattle.table.specs.Table.{with_wide, set_wide}
use Rattle.table.proofs.set_inputs.Goals as goal

pub returns : goal.returns
unfolding set_wide
returns c =
    λ t words marks g h. rw (← h.wide) (c.number_line.ensures (with_wide t _) words marks
    (record { wide = refl; tall = h.tall; stated = h.stated; lines = h.lines; rows = h.rows; kept = h.kept; cubes = h.cubes; masks = h.masks }))
