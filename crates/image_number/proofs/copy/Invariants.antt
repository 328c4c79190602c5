-- `image_number::copy` meets its contract. The loop's invariant: the cubes passed stand renumbered from place `at` on. Assumes nothing.
use mathlib.Core.List.{map}
use lib.ListN.{length, take}
use Rattle.expression.{specs.Words.cubes_of, specs.Words.Placed}
use Rattle.image_number.specs.Parts.{cube_by}
use Rattle.image_number.proofs.copy.Given as goal

abbrev pub invariant-loop-i : goal.invariant-loop-i
invariant-loop-i l = record {
  goes_on : (goal.iterator-loop-i).can_next l.i-iterator;
  ends : (goal.iterator-loop-i).is_finite l.i-iterator;
  put : Placed l.fn.out l.out l.at (take (length l.yielded) (map (cube_by l.places) (cubes_of l.f)));
}
