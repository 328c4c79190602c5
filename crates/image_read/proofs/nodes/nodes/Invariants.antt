-- `image_read::nodes` meets its contract. The loop's invariant: the nodes read so far are put and counted, and with those to come are those
-- of the definition. Assumes nothing.
use lib.ListN.{length}
use Rattle.image_fields.specs.Fields.{bits_in}
use Rattle.image_read.proofs.Filling.{Counting}
use Rattle.image_read.proofs.nodes.nodes.Given as goal

abbrev pub invariant-loop-count : goal.invariant-loop-count
invariant-loop-count l = Counting (bits_in l.bytes) l.v (length l.fn.counts) l.count-index l.initial.s l.initial.words l.words l.count-items l.s
