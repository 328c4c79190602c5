-- A network with every expression changed, inputs and numbers kept.
use Rattle.std.specs.Prelude.{ℕ, List, map}
use Rattle.network.specs.Net.{Node, Net}

-- g of a divisor's expression in its place
abbrev pub on_node : (List (List ℕ) → List (List ℕ)) → Node → Node
on_node g e = record { number = e.number; cubes = g e.cubes }

abbrev pub map_nodes : (List (List ℕ) → List (List ℕ)) → Net → Net
map_nodes g n = record { inputs = n.inputs; outputs = map g n.outputs; divisors = map (on_node g) n.divisors }
