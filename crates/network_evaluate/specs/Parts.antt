-- A word for the contracts of the private functions: divisors that settle by true literals.
use Rattle.std.specs.Prelude.{ℕ, List, [], ◌∷◌}
use Rattle.sets.specs.Sets.{insert}
use Rattle.network_known.specs.Known.{signed, some_within}
use Rattle.network.specs.Net.{Net, cubes_at}

-- the listed divisors take their values one after the other
unfoldable pub settled_in : Net → List ℕ → List ℕ → List ℕ
settled_in n [] t = t
settled_in n (v ∷ l) t = settled_in n l (insert (signed v (some_within t (cubes_at v n.divisors))) t)
