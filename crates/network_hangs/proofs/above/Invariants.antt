-- `network_hangs::above` meets its contract. The loop's invariant: what is left is the variables from v on. Assumes nothing.
use lib.Dec.{leb}
use Rattle.sets.specs.Lists.{keep}
use Rattle.cube.specs.Cube.{lits}
use Rattle.network_hangs.specs.Parts.{Makes}
use Rattle.network_hangs.proofs.above.Given as goal

abbrev pub invariant-loop-v : goal.invariant-loop-v
invariant-loop-v l = Makes (lits l.initial.left) (lits l.left) (keep (λ u. leb l.v u))
