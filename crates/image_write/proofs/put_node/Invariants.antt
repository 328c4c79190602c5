-- `image_write::put_node` meets its contract. The loop's invariant: the fields of the cubes left are due. Assumes nothing.
use Rattle.expression.specs.Words.{cubes_of}
use Rattle.image_fields.specs.Fields.{field_bits}
use Rattle.image_laws.specs.Image.{node_fields}
use Rattle.image_write.proofs.Laying.{Going}
use Rattle.image_write.proofs.Following.{spread_cubes}
use Rattle.image_write.proofs.put_node.Given as goal

abbrev pub invariant-loop-c : goal.invariant-loop-c
invariant-loop-c l = Going l.fn.o l.fn.at (field_bits (node_fields (cubes_of l.f))) l.o l.p (spread_cubes (cubes_of l.c-iterator.words.now))
