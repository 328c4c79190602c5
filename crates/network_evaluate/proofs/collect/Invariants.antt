-- `network_evaluate::collect` meets its contract. The loop's invariant: the number has the bits of the outputs from i on. Assumes nothing.
use Rattle.cube.specs.Cube.{lits}
use Rattle.network.specs.Parts.{nodes_of}
use Rattle.network_known.specs.Known.{some_within}
use Rattle.network_evaluate.proofs.Settling.{Collected}
use Rattle.network_evaluate.proofs.collect.Given as goal

abbrev pub invariant-loop-i : goal.invariant-loop-i
invariant-loop-i l = Collected (some_within (lits l.t)) (nodes_of l.n.outputs l.n.counts l.n.words) l.i l.r
