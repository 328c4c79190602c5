-- `extract::follow` meets its contract. The loop's invariant: the steps listed, and then a run of the steps left, make the run. Assumes nothing.
use Prim.Native.Nat.{◌-◌}
use Rattle.extract_counts.specs.Counts.{Says}
use Rattle.network.{specs.Net.nodes, specs.Held.net_of}
use Rattle.extract.proofs.Going.{Going}
use Rattle.extract.proofs.follow.Given as goal

abbrev pub invariant-loop : goal.invariant-loop
invariant-loop l = record {
  going : Going l.steps (net_of l.fn.n) l.made (l.steps - l.counter) l.net l.literals l.s;
  says : Says l.gains.table l.gains.entries (nodes (net_of l.net));
}
