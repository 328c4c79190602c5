-- `network_nodes::start` meets its contract. The loop's invariant: the sum is that of the counts passed, and not past the most. Assumes nothing.
use Prim.Native.Nat.{◌+◌, ◌≤◌}
use mathlib.Core.Path.{◌≡◌}
use lib.ListN.{take}
use Rattle.sets.{specs.Lists.total}
use Rattle.network_nodes.specs.Nodes.{count_before}
use Rattle.network_nodes.proofs.start.Given as goal

abbrev pub invariant-loop-n : goal.invariant-loop-n
invariant-loop-n l =
    (l.sum ≤ l.most) × (l.sum + total (λ c. c) (take l.n-iterator.n l.n-iterator.iter.rest.now) ≡ count_before l.i l.counts)
