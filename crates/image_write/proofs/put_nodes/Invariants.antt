-- `image_write::put_nodes` meets its contract. The loop's invariant: the fields of the nodes left are due. Assumes nothing.
use lib.ListN.{length, drop}
use Rattle.image_write.specs.Parts.{nodes_from, bits_from}
use Rattle.image_write.proofs.Laying.{Going}
use Rattle.image_write.proofs.Following.{spread_nodes}
use Rattle.image_write.proofs.put_nodes.Given as goal

abbrev pub invariant-loop-f : goal.invariant-loop-f
invariant-loop-f l =
    Going l.fn.o l.fn.at (bits_from l.a l.e l.n.words l.n.counts) l.o l.p (spread_nodes (drop (length l.yielded) (nodes_from l.a l.e l.n.words l.n.counts)))
