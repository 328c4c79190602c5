-- `node::widest` meets its contract: the greatest column so far is that of the nodes before. Assumes nothing.
use Rattle.std.proofs.Common.{◌≡◌}
use Rattle.spindle.specs.Node.{widest_of}
use Rattle.spindle.proofs.node.widest.Given as goal

abbrev pub invariant-loop-i : goal.invariant-loop-i
invariant-loop-i l = l.most ≡ widest_of l.n l.i
