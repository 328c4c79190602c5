-- `cokernel::close` meets its contract. The loop's invariant: the number and the common part are those of the cubes from i on. Assumes nothing.
use lib.ListN.{drop}
use Rattle.cube.specs.Cube.{lits}
use Rattle.expression.specs.Words.{cubes_of}
use Rattle.cokernel.specs.Cokernels.{above}
use Rattle.cokernel.proofs.Steps.{Shares}
use Rattle.cokernel.proofs.close.Given as goal

abbrev pub invariant-loop-i : goal.invariant-loop-i
invariant-loop-i l = Shares l.number l.m (above (drop l.i (cubes_of l.f)) (lits l.c))
