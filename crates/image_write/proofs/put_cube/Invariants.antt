-- `image_write::put_cube` meets its contract. The loop's invariant: the fields of the literals left are due. Assumes nothing.
use Rattle.cube.specs.Cube.{lits}
use Rattle.image_fields.specs.Fields.{field_bits}
use Rattle.image_laws.specs.Image.{cube_fields}
use Rattle.image_write.proofs.Laying.{Going}
use Rattle.image_write.proofs.Following.{spread}
use Rattle.image_write.proofs.put_cube.Given as goal

abbrev pub invariant-loop-l : goal.invariant-loop-l
invariant-loop-l l = Going l.fn.o l.fn.at (field_bits (cube_fields (lits l.fn.c))) l.o l.p (spread (lits l.l-iterator.rest))
