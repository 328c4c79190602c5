-- `network_evaluate::given` meets its contract. The loop's invariant: the cube has the true literals of the inputs passed. Assumes nothing.
use mathlib.Core.List.{[]}
use Rattle.sets.specs.Masks.{bit}
use Rattle.cube.specs.Cube.{lits}
use Rattle.network_known.specs.Known.{Truths}
use Rattle.network_evaluate.proofs.given.Given as goal

abbrev pub invariant-loop-v : goal.invariant-loop-v
invariant-loop-v l = Truths l.v [] (bit l.setting) (lits l.c)
