-- What the laws of the form speak of: each level of it is a weak division.
use Rattle.std.specs.Prelude.{ℕ, ◌<◌, ◌≤◌, List, [], ◌∷◌}
use mathlib.Core.{Path.◌≡◌, Bool.true, Bool.false}
use Rattle.sets.specs.Lists.{is_nil}
use Rattle.expression.specs.Expression.{expression, ordered}
use Rattle.division.specs.Division.{quotient, remainder}
use Rattle.factor.specs.Form.{used_in, most_used, Form, sum, times, plus}

-- a literal alone, as an expression
abbrev pub alone : ℕ → List (List ℕ)
alone l = (l ∷ []) ∷ []

-- what is divided is an expression in cube order
pub record Divisible (f : List (List ℕ)) : Type 0 where
  pub whole : expression f ≡ true
  pub in_order : ordered f ≡ true

-- l is the literal in most cubes, and in two at least
pub record Picked (l : ℕ) (f : List (List ℕ)) : Type 0 where
  pub most : l ≡ most_used f
  pub many : 2 ≤ used_in l f

-- the form is made of f by weak division: by the literal in most cubes, as long as it is in two; the remainder follows if it has cubes
abbrev pub Divided : List (List ℕ) → Form → Type 0
Divided f (sum g) = Divisible f × (used_in (most_used f) f < 2) × (f ≡ g)
Divided f (times l q) = Divisible f × Picked l f × Divided (quotient f (alone l)) q × (is_nil (remainder f (alone l)) ≡ true)
Divided f (plus l q r) =
    Divisible f × Picked l f × Divided (quotient f (alone l)) q × (is_nil (remainder f (alone l)) ≡ false) × Divided (remainder f (alone l)) r
