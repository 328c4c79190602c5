-- A network with its divisors numbered in the order of the listing.
use Rattle.std.specs.Prelude.{ℕ, suc, ◌+◌, ◌*◌, ◌/◌, ◌%◌, cond, List, [], ◌∷◌, map, ltb, eqb}
use Rattle.sets.specs.Sets.{insert}
use Rattle.expression.specs.Expression.{sort}
use Rattle.network.specs.{Net.Net, Net.cubes_at, Listing.listing, Held.numbered, Map.map_nodes}

-- the place of v in a list; its length where v is not there
unfoldable pub index_of : ℕ → List ℕ → ℕ
index_of v [] = 0
index_of v (u ∷ l) = cond (eqb v u) 0 (suc (index_of v l))

-- inputs keep their numbers; a divisor takes the next number from n in the order of the listing
unfoldable pub new_number : ℕ → List ℕ → ℕ → ℕ
new_number n listed v = cond (ltb v n) v (n + index_of v listed)

-- the literal of the new number, of the same polarity
unfoldable pub new_literal : ℕ → List ℕ → ℕ → ℕ
new_literal n listed l = 2 * new_number n listed (l / 2) + l % 2

unfoldable pub new_cube : ℕ → List ℕ → List ℕ → List ℕ
new_cube n listed [] = []
new_cube n listed (l ∷ c) = insert (new_literal n listed l) (new_cube n listed c)

-- cubes are ordered after renumbering
unfoldable pub new_node : ℕ → List ℕ → List (List ℕ) → List (List ℕ)
new_node n listed f = sort (map (new_cube n listed) f)

-- the divisors in the order of the listing, numbered in turn from the inputs on
abbrev pub relisted : Net → Net
relisted n = record { inputs = n.inputs; outputs = n.outputs; divisors = numbered n.inputs (map (λ v. cubes_at v n.divisors) (listing n)) }

-- and the new literals in every node
unfoldable pub renumbered : Net → Net
renumbered n = map_nodes (new_node n.inputs (listing n)) (relisted n)
