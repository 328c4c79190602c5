-- `network_listing::below` meets its contract. The loop's invariant: the cube has both literals of each variable passed. Assumes nothing.
use mathlib.Core.List.{[]}
use Rattle.cube.specs.Cube.{lits}
use Rattle.network_known.specs.Known.{BothWays}
use Rattle.network_listing.proofs.below.Given as goal

abbrev pub invariant-loop-v : goal.invariant-loop-v
invariant-loop-v l = BothWays l.v [] (lits l.c)
