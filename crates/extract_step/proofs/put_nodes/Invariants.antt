-- `extract_step::put_nodes` meets its contract. The loop's invariant: the nodes passed stand rewritten one after the other. Assumes nothing.
use Rattle.std.proofs.Common.{map, take, length}
use Rattle.network.specs.{Handed.LaidNodes, Parts.nodes_of}
use Rattle.extract_laws.specs.Divisor.{rewrite}
use Rattle.extract_divisor.specs.Divisor.{divisor_of}
use Rattle.extract_step.proofs.put_nodes.Given as goal

abbrev pub invariant-loop-i : goal.invariant-loop-i
invariant-loop-i l = record {
  goes_on : (goal.iterator-loop-i).can_next l.i-iterator;
  ends : (goal.iterator-loop-i).is_finite l.i-iterator;
  laid : LaidNodes l.out l.sizes l.to (take (length l.yielded) (map (rewrite l.x.0 (divisor_of l.d)) (nodes_of l.e l.counts l.words)));
}
