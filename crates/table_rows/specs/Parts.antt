-- What the parts of the reading of a cube line answer.
use Rattle.std.specs.Prelude.{ℕ, ◌*◌, ◌+◌, cond, List, eqb}
use Rattle.cube.specs.Cube.{joined}

-- a cube with the literal of variable v that the place b asks for
unfoldable pub placed : ℕ → ℕ → List ℕ → List ℕ
placed v b c = cond (eqb b 49) (joined (2 * v) c) (cond (eqb b 48) (joined (2 * v + 1) c) c)
