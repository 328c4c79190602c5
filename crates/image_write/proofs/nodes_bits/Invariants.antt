-- `image_write::nodes_bits` meets its contract. The loop's invariant: the sum and the bits of the nodes left are those of all. Assumes nothing.
use Prim.Native.Nat.{◌+◌, ◌*◌, ◌≤◌}
use mathlib.Core.Path.{◌≡◌}
use lib.ListN.{length, drop}
use Rattle.image_write.specs.Parts.{most_held_bits}
use Rattle.image_write.proofs.Following.{spread_nodes, all_nodes}
use Rattle.image_write.proofs.nodes_bits.Given as goal

abbrev pub invariant-loop-f : goal.invariant-loop-f
invariant-loop-f l = record {
  left : l.sum + length (spread_nodes (drop (length l.yielded) (all_nodes l.n))) ≡ length (spread_nodes (all_nodes l.n));
  most : l.sum ≤ most_held_bits * length l.yielded;
}
