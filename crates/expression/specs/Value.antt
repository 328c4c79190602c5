-- The value of literals, cubes and expressions under an assignment of the variables.
use Rattle.std.specs.Prelude.{ℕ, ◌/◌, ◌%◌, Bool, cond, not, List, eqb}
use Rattle.sets.specs.Lists.{any, all}

-- a plain literal has its variable's value, a negated one the other
unfoldable pub lit : (ℕ → Bool) → ℕ → Bool
lit a l = cond (eqb (l % 2) 0) (a (l / 2)) (not (a (l / 2)))

-- the product of a cube's literals, where v is the value of each; the empty cube is constant 1
abbrev pub cube_value : (ℕ → Bool) → List ℕ → Bool
cube_value v c = all v c

-- the sum of the cubes; no cubes is constant 0
abbrev pub value : (ℕ → Bool) → List (List ℕ) → Bool
value v f = any (all v) f
