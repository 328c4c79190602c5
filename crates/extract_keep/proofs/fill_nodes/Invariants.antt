-- `extract_keep::fill_nodes` meets its contract. The loop's invariant: the nodes that are left are still to be put in. Assumes nothing.
use Prim.Native.Nat.{◌+◌}
use Rattle.network.specs.{Parts.nodes_of}
use Rattle.network_nodes.proofs.Chains.{left}
use Rattle.extract_counts.specs.Counts.{net_gain}
use Rattle.extract_partners.proofs.Turning.{Partly}
use Rattle.extract_keep.proofs.fill_nodes.Given as goal

abbrev pub invariant-loop-f : goal.invariant-loop-f
invariant-loop-f l = Partly l.initial.t l.initial.g l.t l.g (λ k. net_gain k (left l.f-iterator)) (λ k. net_gain k (nodes_of (l.n.outputs + l.n.divisors) l.n.counts l.n.words))
