-- `extract_choice::count_all` meets its contract. The loop's invariant: what is counted and what the nodes left have make up all. Assumes nothing.
use Rattle.cube.specs.Cube.{lits}
use Rattle.network.specs.{Net.nodes, Held.net_of}
use Rattle.network_nodes.proofs.Chains.{left}
use Rattle.extract_choice.proofs.Counting.{Summing}
use Rattle.extract_choice.proofs.count_all.Given as goal

abbrev pub invariant-loop-f : goal.invariant-loop-f
invariant-loop-f l = Summing (lits l.a) (lits l.b) (nodes (net_of l.n)) (left l.f-iterator) l.r
