-- `blif_read::build::read_signs` meets its contract. The loop's invariant: whatever the signs are, those passed have their literals in the cube, and
-- the others are left. Assumes nothing.
use mathlib.Core.{Path.◌≡◌, List.List, List.◌++◌}
use lib.ListN.{length}
use Rattle.cube.specs.Cube.{lits}
use Rattle.blif_scan.specs.Scanning.{left}
use Rattle.blif_read.specs.Building.{Columns}
use Rattle.blif_read.proofs.Putting.{SignsTo}
use Rattle.blif_read.proofs.build.read_signs.Given as goal

abbrev pub invariant-loop-v : goal.invariant-loop-v
invariant-loop-v l =
    (w t : List _) → Columns l.vars → length w ≡ length l.vars → left l.s l.from ≡ w ++ t → SignsTo l.s l.at l.vars (lits l.c) l.v-index w t
