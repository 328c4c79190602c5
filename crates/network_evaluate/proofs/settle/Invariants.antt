-- `network_evaluate::settle` meets its contract. The loop's invariant: what is left of the order settles to what the whole order does. Assumes nothing.
use mathlib.Core.Path.{◌≡◌}
use lib.ListN.{drop}
use Rattle.cube.specs.Cube.{lits}
use Rattle.network.specs.Held.{net_of}
use Rattle.network_evaluate.specs.Parts.{settled_in}
use Rattle.network_evaluate.proofs.settle.Given as goal

abbrev pub invariant-loop-v : goal.invariant-loop-v
invariant-loop-v l = settled_in (net_of l.n) (drop l.v-index l.order) (lits l.t) ≡ settled_in (net_of l.n) l.order (lits l.fn.inputs)
