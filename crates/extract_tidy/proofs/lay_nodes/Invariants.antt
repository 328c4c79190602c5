-- `extract_tidy::lay_nodes` meets its contract. The loop's invariant: the nodes passed stand in cube order one after the other. Assumes nothing.
use Rattle.std.proofs.Common.{map, ◌+◌, take, length}
use Rattle.expression.specs.Expression.{sort}
use Rattle.network.specs.{Handed.LaidNodes, Parts.nodes_of}
use Rattle.extract_tidy.proofs.lay_nodes.Given as goal

abbrev pub invariant-loop-i : goal.invariant-loop-i
invariant-loop-i l = record {
  goes_on : (goal.iterator-loop-i).can_next l.i-iterator;
  ends : (goal.iterator-loop-i).is_finite l.i-iterator;
  laid : LaidNodes l.words l.counts l.at (take (length l.yielded) (map sort (nodes_of (l.n.outputs + l.n.divisors) l.n.counts l.n.words)));
}
