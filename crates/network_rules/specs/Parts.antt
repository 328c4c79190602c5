-- The literals of a network whose rules are not asked for.
use Rattle.std.specs.Prelude.{ℕ}
use mathlib.Core.Bool.{cond}
use Rattle.expression.specs.Answers.{capped}
use Rattle.network.specs.{Net.literal_count, Held.net_of, Held.sized, declared.Network.Network}

-- the literals over all expressions of a network within the limits, at most as many as a word holds; no literals where it is not within them
unfoldable pub literals_within : Network → ℕ
literals_within n = cond (sized n) (capped (literal_count (net_of n))) 0
