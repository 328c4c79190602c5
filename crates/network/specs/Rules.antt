-- What the rules on networks say, in the paper's words, against which the test `rules` is held; which networks mean the same.
use Rattle.std.specs.Prelude.{ℕ, ◌≤◌, length, take}
use mathlib.Core.{Path.◌≡◌, Bool.true}
use mathlib.Core.List.{List, map, Memᴰ}
use Rattle.sets.specs.Lists.{total}
use Rattle.expression.specs.{Words.cubes_of, Expression.expression}
use Rattle.network.specs.Net.{Node, Net, nodes, variables, HasVariable, cube_count, literal_count}
use Rattle.network.specs.{Meaning.Reads, Meaning.Through, declared.Network.Network}
use Rattle.network.specs.Held.{numbered, used, net_of, most_inputs, most_outputs, most_variables, most_cubes, most_literals}

-- two networks with the same slots in use
pub record Alike (n m : Network) : Type 0 where
  pub inputs : n.inputs ≡ m.inputs
  pub outputs : n.outputs ≡ m.outputs
  pub divisors : n.divisors ≡ m.divisors
  pub counts : used n ≡ used m
  pub cubes : take (total (λ c. c) (used n)) (cubes_of n.words) ≡ take (total (λ c. c) (used m)) (cubes_of m.words)

-- ---- the rules

-- the divisors are numbered in turn, from the inputs on
abbrev pub InTurn : Net → Type 0
InTurn n = n.divisors ≡ numbered n.inputs (map (λ (e : Node). e.cubes) n.divisors)

-- what they say of the expressions
pub record Good (n : Net) : Type 0 where
  -- every node has an expression, over the inputs and the divisors
  pub expressions : (f : List (List ℕ)) → Memᴰ f (nodes n) → expression f ≡ true
  pub known : (f : List (List ℕ)) → Memᴰ f (nodes n) → (v : ℕ) → Reads f v → HasVariable n v
  pub in_turn : InTurn n
  -- no divisor reads itself through others
  pub acyclic : (v : ℕ) → Through n v v → ⊥

-- the limits on a network's size
pub record Within (n : Net) : Type 0 where
  pub variables : variables n ≤ most_variables
  pub cubes : cube_count n ≤ most_cubes
  pub literals : literal_count n ≤ most_literals

-- a network by the rules
pub record Lawful (n : Net) : Type 0 where
  pub inputs : (1 ≤ n.inputs) × (n.inputs ≤ most_inputs)
  pub outputs : (1 ≤ length n.outputs) × (length n.outputs ≤ most_outputs)
  pub within : Within n
  pub good : Good n

-- the struct means one, and its counts are within the limit on cubes
pub record Follows (n : Network) : Type 0 where
  pub counted : total (λ c. c) (used n) ≤ most_cubes
  pub lawful : Lawful (net_of n)
