-- `network_listing::list` meets its contract. The loop's invariant: the turns that are left make the listing. Assumes nothing.
use Prim.Native.Nat.{◌-◌}
use Rattle.cube.specs.Cube.{lits}
use Rattle.network.specs.Held.{net_of}
use Rattle.network_listing.proofs.Turns.{Turn}
use Rattle.network_listing.proofs.list.Given as goal

abbrev pub invariant-loop-count : goal.invariant-loop-count
invariant-loop-count l = Turn (net_of l.n) (l.n.divisors - l.count) l.order l.count (lits l.known)
