-- A network: n inputs, an expression for each output and each divisor. Inputs are variables 0 to n - 1, divisors have numbers of their own.
use Rattle.std.specs.Prelude.{ℕ, ◌+◌, ◌/◌, ◌<◌, List, [], ◌∷◌, ◌++◌, map, Bool, cond, ◌||◌, ltb, eqb, length}
use Rattle.sets.specs.{Lists.all, Lists.total, Sets.mem}
use Rattle.expression.specs.Expression.{literals_of}

pub record Node : Type 0 where
  pub number : ℕ
  pub cubes : List (List ℕ)

pub record Net : Type 0 where
  pub inputs : ℕ
  pub outputs : List (List (List ℕ))
  pub divisors : List Node

-- all expressions: outputs, then divisors
abbrev pub nodes : Net → List (List (List ℕ))
nodes n = n.outputs ++ map (λ (e : Node). e.cubes) n.divisors

-- the number of variables: inputs and divisors
abbrev pub variables : Net → ℕ
variables n = n.inputs + length n.divisors

-- n has a variable v: inputs and divisors are numbered in turn, from 0 on
abbrev pub HasVariable : Net → ℕ → Type 0
HasVariable n v = v < variables n

-- v is a variable of n: an input, or the number of a divisor
abbrev pub known : Net → ℕ → Bool
known n v = ltb v n.inputs || mem v (map (λ (e : Node). e.number) n.divisors)

-- every literal of an expression is of a variable of n
abbrev pub over : Net → List (List ℕ) → Bool
over n f = all (all (λ l. known n (l / 2))) f

abbrev pub cube_count : Net → ℕ
cube_count n = total length (nodes n)

-- the literal count is over all expressions, divisors included
abbrev pub literal_count : Net → ℕ
literal_count n = total literals_of (nodes n)

-- the expression of the divisor with a number; none where there is no such divisor
unfoldable pub cubes_at : ℕ → List Node → List (List ℕ)
cubes_at v [] = []
cubes_at v (e ∷ l) = cond (eqb v e.number) e.cubes (cubes_at v l)
