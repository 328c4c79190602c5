-- Which output of a network hangs on which divisor, as a table of cells.
use Rattle.std.specs.Prelude.{ℕ, ◌+◌, ◌*◌, ◌<◌, Bool, false, cond, ltb, get_or}
use mathlib.Core.{Path.◌≡◌, List.List, List.[]}
use Rattle.sets.specs.Sets.{mem}
use Rattle.network.specs.{Held.most_outputs, Held.most_variables, declared.Network.Network}
use Rattle.network_hangs.specs.Hangs.{hangs_at}

-- the divisors that output j hangs on; none past the last output
unfoldable pub row_of : Network → ℕ → List ℕ
row_of n j = cond (ltb j n.outputs) (hangs_at n j) []

-- cell v of row j says whether output j hangs on the divisor of number v; it does on no input
pub record Crossed (n : Network) (cells : List Bool) : Type 0 where
  pub each : (j v : ℕ) → j < most_outputs → v < most_variables → get_or cells (j * most_variables + v) false ≡ mem v (row_of n j)
