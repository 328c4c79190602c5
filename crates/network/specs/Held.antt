-- The network that the fields of the struct hold, and the rules on networks.
use Rattle.std.specs.Prelude.{ℕ, suc, ◌+◌, ◌-◌, Bool, ◌&&◌, List, [], ◌∷◌, leb, eqb, length, take, drop}
use Rattle.sets.specs.Lists.{all, total}
use Rattle.expression.specs.{Words.cubes_of, Expression.expression}
pub use Rattle.expression.specs.Expression.{reach}
use Rattle.network_nodes.specs.Nodes.{cut}
use Rattle.network.specs.Net.{Node, Net, nodes, over, literal_count}
use Rattle.network.specs.{Listing.listing, declared.Network.Network}

-- divisors, numbered from v on
unfoldable pub numbered : ℕ → List (List (List ℕ)) → List Node
numbered v [] = []
numbered v (f ∷ fs) = record { number = v; cubes = f } ∷ numbered (suc v) fs

-- the number of the divisor at place i among the divisors
abbrev pub number_at : ℕ → ℕ → ℕ
number_at inputs i = inputs + i

-- the place of the divisor v among the nodes, outputs first
abbrev pub place_at : ℕ → ℕ → ℕ → ℕ
place_at inputs outputs v = outputs + (v - inputs)

-- the counts in use: outputs first, then divisors
abbrev pub used : Network → List ℕ
used n = take (n.outputs + n.divisors) n.counts

-- what the slots in use mean; the others mean nothing
abbrev pub net_of : Network → Net
net_of n = record {
  inputs = n.inputs;
  outputs = take n.outputs (cut (used n) (cubes_of n.words));
  divisors = numbered n.inputs (drop n.outputs (cut (used n) (cubes_of n.words)));
}

-- ---- the rules

abbrev pub most_inputs : ℕ
most_inputs = 32

abbrev pub most_outputs : ℕ
most_outputs = 32

abbrev pub most_variables : ℕ
most_variables = 64

abbrev pub most_cubes : ℕ
most_cubes = 1088

abbrev pub most_literals : ℕ
most_literals = 32768

-- from 1 to the most
abbrev pub up_to : ℕ → ℕ → Bool
up_to most n = leb 1 n && leb n most

-- numbers of inputs, outputs, divisors and cubes within the limits
abbrev pub sized : Network → Bool
sized n =
    up_to most_inputs n.inputs && (up_to most_outputs n.outputs && (leb (n.inputs + n.divisors) most_variables && leb (total (λ c. c) (used n)) most_cubes))

-- every node an expression over the network's variables, few enough literals, and no divisor reads itself through others: all are listed
unfoldable pub ruled : Net → Bool
ruled n =
    all expression (nodes n) && (all (over n) (nodes n) && (leb (literal_count n) most_literals && eqb (length (listing n)) (length n.divisors)))

-- the rules on networks and expressions, and the limits
unfoldable pub rules : Network → Bool
rules n = sized n && ruled (net_of n)
