-- `extract_keep::renew_node` meets its contract. The loop's invariant: the table has the cubes of b before place j and those of a from place i
-- on. Assumes nothing.
use Prim.Native.Nat.{◌+◌, ◌-◌, ◌≤◌}
use lib.ListN.{length}
use Rattle.expression.{specs.Words.cubes_of}
use Rattle.extract_counts.specs.Counts.{node_gain}
use Rattle.extract_keep.specs.Parts.{Shifts, between}
use Rattle.extract_keep.proofs.renew_node.Given as goal

abbrev pub invariant-loop-o : goal.invariant-loop-o
invariant-loop-o l =
    (l.i ≤ length (cubes_of l.a)) × (l.j ≤ length (cubes_of l.b))
    × Shifts l.initial.t l.initial.g l.t l.g (λ k. node_gain k (cubes_of l.a)) (λ k. node_gain k (between (cubes_of l.a) l.i (cubes_of l.b) l.j))

abbrev pub decreases-loop-o : goal.decreases-loop-o
decreases-loop-o l = (length (cubes_of l.a) - l.i) + (length (cubes_of l.b) - l.j)
