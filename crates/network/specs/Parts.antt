-- What lent words and counts hold.
use Rattle.std.specs.Prelude.{ℕ, ◌+◌, ◌≤◌, List, length, take, drop}
use Rattle.sets.specs.Lists.{total}
use Rattle.expression.specs.Words.{cubes_of}
use Rattle.network_nodes.specs.Nodes.{cut}
use Rattle.network.specs.{Net.Net, Handed.Shaped, declared.Network.Network}
use Rattle.network.specs.Held.{net_of, most_outputs, most_variables, most_cubes}

-- the expressions of the first e counts
abbrev pub nodes_of : ℕ → List ℕ → List ℕ → List (List (List ℕ))
nodes_of e counts words = cut (take e counts) (cubes_of words)

-- the expressions of k divisors, after those of m outputs
abbrev pub divisors_of : ℕ → ℕ → List ℕ → List ℕ → List (List (List ℕ))
divisors_of m k counts words = drop m (nodes_of (m + k) counts words)

-- the network of n inputs, m outputs and k divisors that words and counts hold
abbrev pub held_in : ℕ → ℕ → ℕ → List ℕ → List ℕ → Network
held_in n m k counts words = record { inputs = n; outputs = m; divisors = k; counts = counts; words = words }

abbrev pub net_at : ℕ → ℕ → ℕ → List ℕ → List ℕ → Net
net_at n m k counts words = net_of (held_in n m k counts words)

-- what follows from the limits
pub record InLimits (n m k : ℕ) (words counts : List ℕ) : Type 0 where
  pub shape : Shaped (held_in n m k counts words)
  pub counted : m + k ≤ length counts
  pub narrow : m ≤ most_outputs
  pub variables : n + k ≤ most_variables
  pub cubes : total (λ c. c) (take (m + k) counts) ≤ most_cubes

-- the limits are kept by a struct
abbrev pub Limited : Network → Type 0
Limited n = InLimits n.inputs n.outputs n.divisors n.words n.counts
