-- `factor::most_used` meets its contract. The loop's invariant: the choice among the best so far and the literals from l on is the whole
-- choice. Assumes nothing.
use mathlib.Core.Path.{◌≡◌}
use Prim.Native.Nat.{◌-◌, ◌*◌}
use Rattle.cube.specs.Cube.{width}
use Rattle.expression.specs.Words.{cubes_of}
use Rattle.factor.specs.Form.{used_in, most as most_from, most_used}
use Rattle.factor.proofs.most_used.Given as goal

abbrev pub invariant-loop-l : goal.invariant-loop-l
invariant-loop-l l =
    (l.most ≡ used_in l.best (cubes_of l.f)) × (most_from (2 * width - l.l) (cubes_of l.f) l.l l.best ≡ most_used (cubes_of l.f))
