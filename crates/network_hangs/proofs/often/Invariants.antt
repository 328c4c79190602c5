-- `network_hangs::often` meets its contract. The loop's invariant: the set is what is reached after so many turns. Assumes nothing.
use Rattle.cube.specs.Cube.{lits}
use Rattle.network.specs.Held.{net_of}
use Rattle.network_hangs.specs.{Hangs.reached, Parts.Makes}
use Rattle.network_hangs.proofs.often.Given as goal

abbrev pub invariant-loop : goal.invariant-loop
invariant-loop l = Makes (lits l.fn.set) (lits l.all) (reached l.counter (net_of l.n))
