-- `table::set_stated` meets its contract. Assumes nothing.
use Rattle.std.proofs.Common.{refl}
use lib.Dec.{leb-zero}
use Rattle.table.specs.Table.{with_stated, set_stated}
use Rattle.table.proofs.set_stated.Goals as goal

pub returns : goal.returns
unfolding set_stated
returns c =
    λ t words marks g h. rw (← h.stated) (rw leb-zero at (c.number_line.ensures (with_stated t _) words marks
    (record { wide = h.wide; tall = h.tall; stated = refl; lines = h.lines; rows = h.rows; kept = h.kept; cubes = h.cubes; masks = h.masks })))
