-- `image_read::cubes` meets its contract. The loop's invariant: the cubes read so far are put and counted, and with those to come are those
-- of the definition. Assumes nothing.
use Rattle.image_fields.specs.Fields.{bits_in}
use Rattle.image_read.proofs.Filling.{Filling}
use Rattle.image_read.proofs.nodes.cubes.Given as goal

abbrev pub invariant-loop-i : goal.invariant-loop-i
invariant-loop-i l = Filling (bits_in l.bytes) l.v l.k l.i l.initial.s l.initial.words l.words l.s
