-- `image_number::new_cube` meets its contract. The loop's invariant: the new literals of what is left, joined to those that are there, are
-- those of the cube. Assumes nothing.
use mathlib.Core.Path.{◌≡◌}
use Rattle.sets.specs.Sets.{union}
use Rattle.cube.{specs.Cube.lits}
use Rattle.image_number.specs.Parts.{cube_by}
use Rattle.image_number.proofs.new_cube.Given as goal

abbrev pub invariant-loop-l : goal.invariant-loop-l
invariant-loop-l l = union (cube_by l.places (lits l.l-iterator.rest)) (lits l.r) ≡ cube_by l.places (lits l.fn.c)
