-- `blif_read::build::marked` meets its contract. The loop's invariant: the array has the marked numbers passed, and zeros after them. Assumes nothing.
use Prim.Native.Nat.{◌≤◌}
use mathlib.Core.Path.{◌≡◌}
use lib.ListN.{length}
use Rattle.network.specs.Answers.{padded}
use Rattle.blif_read.proofs.Putting.{marked_to}
use Rattle.blif_read.proofs.build.marked.Given as goal

abbrev pub invariant-loop-v : goal.invariant-loop-v
invariant-loop-v l = (l.n ≤ l.v) × (l.n ≡ length (marked_to l.marks l.v)) × (l.vars ≡ padded (marked_to l.marks l.v))
