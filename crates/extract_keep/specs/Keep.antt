-- What the table says of a network.
use Rattle.std.specs.Prelude.{ℕ, ◌<◌, List}
use mathlib.Core.{Path.◌≡◌, Bool.true}
use Rattle.network.specs.{Net.nodes, Held.net_of, Held.rules, declared.Network.Network}
use Rattle.extract_tidy.specs.Tidy.{arranged}
use Rattle.extract_gains.specs.Gains.{entries, many}
use Rattle.extract_counts.specs.Counts.{Says}

-- of a network by the rules and in cube order it says the gains of all divisors
abbrev pub Knows : List ℕ → List ℕ → Network → Type 0
Knows t g n = rules n ≡ true → arranged n ≡ true → Says t g (nodes (net_of n))

-- of this network it says them, unless it is full
abbrev pub Kept : List ℕ → List ℕ → Network → Type 0
Kept t g n = many t < entries → Says t g (nodes (net_of n))
