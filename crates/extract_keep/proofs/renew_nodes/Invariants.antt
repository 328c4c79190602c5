-- `extract_keep::renew_nodes` meets its contract. The loop's invariant: the nodes before node i are those of the second. Assumes nothing.
use lib.ListN.{take}
use Rattle.network.specs.{Net.nodes, Held.net_of}
use Rattle.extract_counts.specs.Counts.{net_gain}
use Rattle.extract_keep.specs.Parts.{Shifts}
use Rattle.extract_keep.proofs.renew_nodes.Given as goal

abbrev pub invariant-loop-i : goal.invariant-loop-i
invariant-loop-i l =
    Shifts l.initial.t l.initial.g l.t l.g (λ k. net_gain k (take l.i (nodes (net_of l.old)))) (λ k. net_gain k (take l.i (nodes (net_of l.new))))
