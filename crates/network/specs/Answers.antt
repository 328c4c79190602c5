-- What the operations on networks answer. A refusal is by 10.
use Rattle.std.specs.Prelude.{ℕ, ◌-◌, Bool, cond, ◌&&◌, List, [], ◌++◌, length, replicate}
use Rattle.sets.specs.Lists.{all}
use Rattle.expression.specs.declared.{Verdict.Verdict, Verdict.TheVariants.Accepted, Verdict.TheVariants.Refused}
use Rattle.network.specs.Net.{nodes, over, literal_count}
use Rattle.network.specs.{Listing.listing, Evaluation.evaluate, declared.Network.Network, declared.Listed.Listed}
use Rattle.network.specs.Held.{net_of, sized, rules, most_variables}
use Rattle.network.specs.declared.{Number.Number, Number.TheVariants.Is, Number.TheVariants.No}

unfoldable pub judged : Network → Verdict
judged n = cond (rules n) Accepted (Refused 10)

unfoldable pub counted : Network → Number
counted n = cond (rules n) (Is (literal_count (net_of n))) (No 10)

unfoldable pub evaluated : Network → ℕ → Number
evaluated n s = cond (rules n) (Is (evaluate (net_of n) s)) (No 10)

-- numbers in as many places as there may be variables, zeros after them
abbrev pub padded : List ℕ → List ℕ
padded l = l ++ replicate (most_variables - length l) 0

-- within the limits, and every literal of a variable
unfoldable pub listable : Network → Bool
listable n = sized n && all (over (net_of n)) (nodes (net_of n))

-- no number is listed where that does not hold
unfoldable pub numbers_of : Network → List ℕ
numbers_of n = cond (listable n) (listing (net_of n)) []

unfoldable pub listed_of : Network → Listed
listed_of n = record { count = length (numbers_of n); order = padded (numbers_of n) }
