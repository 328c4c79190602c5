-- Words for the contracts of the private functions: the new numbers as places give them, cubes and nodes by them.
use Rattle.std.specs.Prelude.{ℕ, ◌+◌, ◌-◌, ◌*◌, ◌/◌, ◌%◌, ◌<◌, ◌≤◌, List, [], ◌∷◌, map, ltb, length, get_or}
use mathlib.Core.{Path.◌≡◌, Bool.true, Bool.cond}
use Rattle.sets.specs.Sets.{insert}
use Rattle.expression.specs.Expression.{sort}
use Rattle.network.specs.{Listing.listing, Answers.padded, Handed.Shaped, Parts.held_in, Parts.net_at}
use Rattle.network.specs.Held.{most_outputs, most_variables, number_at, place_at, rules}

-- ---- the new numbers

-- a number of a variable for each variable
pub record Wide (ps : List ℕ) : Type 0 where
  pub whole : length ps ≡ most_variables
  pub small : (v : ℕ) → get_or ps v 0 < most_variables

-- each variable below e is at its own number
pub record Itself (e : ℕ) (ps : List ℕ) : Type 0 where
  pub span : Wide ps
  pub each : (v : ℕ) → v < e → get_or ps v 0 ≡ v

-- an order of k numbers from n on, none twice
pub record Numbers (n k : ℕ) (order : List ℕ) : Type 0 where
  pub variables : n + k ≤ most_variables
  pub counted : k ≤ length order
  pub range : (i : ℕ) → i < k → (n ≤ get_or order i 0) × (get_or order i 0 < most_variables)
  pub apart : (i j : ℕ) → i < j → j < k → get_or order i 0 ≡ get_or order j 0 → ⊥

-- inputs keep their numbers; the first k of the order take those from n on
pub record Placing (n k : ℕ) (order ps : List ℕ) : Type 0 where
  pub span : Wide ps
  pub inputs : (v : ℕ) → v < n → get_or ps v 0 ≡ v
  pub divisors : (i : ℕ) → i < k → get_or ps (get_or order i 0) 0 ≡ number_at n i

-- ---- cubes and nodes by them

abbrev pub literal_by : List ℕ → ℕ → ℕ
literal_by ps l = 2 * get_or ps (l / 2) 0 + l % 2

unfoldable pub cube_by : List ℕ → List ℕ → List ℕ
cube_by ps [] = []
cube_by ps (l ∷ c) = insert (literal_by ps l) (cube_by ps c)

abbrev pub node_by : List ℕ → List (List ℕ) → List (List ℕ)
node_by ps f = sort (map (cube_by ps) f)

-- ---- networks

-- the old place of the node that comes to stand at place i
abbrev pub source_of : ℕ → ℕ → ℕ → List ℕ → ℕ
source_of n m i order = cond (ltb i m) i (place_at n m (get_or order (i - m) 0))

-- past the outputs there is a number in the order
pub record Sourced (m i : ℕ) (order : List ℕ) : Type 0 where
  pub outputs : m ≤ most_outputs
  pub counted : m ≤ i → i - m < length order

-- a network by the rules, and the order of its divisors
pub record Numberable (n m k : ℕ) (words counts order : List ℕ) : Type 0 where
  pub lawful : rules (held_in n m k counts words) ≡ true
  pub shape : Shaped (held_in n m k counts words)
  pub listed : order ≡ padded (listing (net_at n m k counts words))
