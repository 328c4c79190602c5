-- `network_hangs::once` meets its contract. The loop's invariant: the set, with what the divisors from i on read, is the variables and
-- what all divisors among them read. Assumes nothing.
use Prim.Native.Nat.{ℕ}
use mathlib.Core.List.{List}
use lib.ListN.{drop}
use Rattle.sets.specs.{Lists.any, Sets.mem, Sets.union}
use Rattle.cube.specs.Cube.{lits}
use Rattle.network.specs.Held.{net_of}
use Rattle.network_reads.specs.Reading.{Marks}
use Rattle.network_reads.proofs.Marking.{Gathers}
use Rattle.network_hangs.specs.Hangs.{read_by}
use Rattle.network_hangs.proofs.Reading.{asks}
use Rattle.network_hangs.proofs.once.Given as goal

abbrev pub invariant-loop-i : goal.invariant-loop-i
invariant-loop-i l = (x : List ℕ) → Marks (lits l.set) x → Gathers (lits l.all) (λ v. any (asks x v) (drop l.i (net_of l.n).divisors))
    (λ v. mem v (union x (read_by (net_of l.n) x)))
