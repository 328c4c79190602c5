-- `expression_survey::find` meets its contract. The loop's invariant: what is left of the search answers as the whole. Assumes nothing.
use Prim.Native.Nat.{◌-◌, ◌≤◌}
use lib.ListN.{length}
use Rattle.cube.{specs.Cube.lits}
use Rattle.expression.specs.Words.{cubes_of}
use Rattle.expression_survey.proofs.Searching.{Left}
use Rattle.expression_survey.proofs.find.Given as goal

abbrev pub invariant-loop-low : goal.invariant-loop-low
invariant-loop-low l = Left (lits l.c) (cubes_of l.s) l.low l.high × (l.high ≤ length (cubes_of l.s))

abbrev pub decreases-loop-low : goal.decreases-loop-low
decreases-loop-low l = l.high - l.low
