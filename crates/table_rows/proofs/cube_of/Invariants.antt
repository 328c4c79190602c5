-- `table_rows::cube_of` meets its contract. The loop's invariant: the cube has the literals of the places so far. Assumes nothing.
use Rattle.std.proofs.Common.{◌≡◌, take}
use Rattle.cube.specs.Cube.{lits}
use Rattle.table_rows.specs.Lines.{cube_from}
use Rattle.table_rows.proofs.cube_of.Given as goal

abbrev pub invariant-loop-v : goal.invariant-loop-v
invariant-loop-v l = lits l.c ≡ cube_from 0 (take l.v l.p)
