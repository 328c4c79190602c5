-- Weak division of expressions.
use Rattle.std.specs.Prelude.{ℕ, Bool, not, ◌&&◌, List, [], ◌∷◌, map}
use Rattle.sets.specs.Lists.{any, all, keep}
use Rattle.sets.specs.Sets.{sub, apart, union, without, same}
use Rattle.expression.specs.Expression.{has, sort}

-- q is in F/D: it shares no literal with any cube of d, and its union with each is in f
unfoldable pub in_quotient : List (List ℕ) → List (List ℕ) → List ℕ → Bool
in_quotient f d q = all (λ c. apart q c && has (union q c) f) d

-- the cubes of f that contain the cube c, without it
abbrev pub left_over : List (List ℕ) → List ℕ → List (List ℕ)
left_over f c = map (λ e. without e c) (keep (sub c) f)

-- F/D: every such cube, in cube order; each is what is left of a cube of F without the first cube of D
unfoldable pub quotient : List (List ℕ) → List (List ℕ) → List (List ℕ)
quotient f [] = []
quotient f (c ∷ d) = sort (keep (in_quotient f (c ∷ d)) (left_over f c))

-- e is the union of a cube of q and a cube of d
unfoldable pub product : List (List ℕ) → List (List ℕ) → List ℕ → Bool
product q d e = any (λ c. any (λ b. same e (union c b)) d) q

-- F without those unions, in cube order
unfoldable pub remainder : List (List ℕ) → List (List ℕ) → List (List ℕ)
remainder f d = sort (keep (λ e. not (product (quotient f d) d e)) f)
