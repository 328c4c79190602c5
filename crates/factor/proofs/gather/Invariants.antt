-- `factor::gather` meets its contract. The loop's invariant: the first i cubes are parted. Assumes nothing.
use Rattle.expression.specs.Words.{cubes_of}
use Rattle.factor.proofs.Parting.{Parting}
use Rattle.factor.proofs.gather.Given as goal

abbrev pub invariant-loop-i : goal.invariant-loop-i
invariant-loop-i l = Parting (cubes_of l.initial.w) (cubes_of l.w) (cubes_of l.spare) l.m l.i l.l.0
