-- Words for the contracts of the private functions: the next number by known literals, and an order that holds a list.
use Rattle.std.specs.Prelude.{ℕ, ◌+◌, ◌<◌, ◌≤◌, ◌≡◌, cond, not, ◌&&◌, List, [], ◌∷◌, length, get_or}
use Rattle.std.proofs.Math.Option.{Option, none, some}
use Rattle.sets.specs.{Sets.mem, Literal.plain_of}
use Rattle.network_known.specs.Known.{every_within}
use Rattle.network.specs.{Net.Node, Held.most_variables, Answers.padded}

-- the first divisor that is not known and reads known variables alone
unfoldable pub next_in : List ℕ → List Node → Option ℕ
next_in k [] = none
next_in k (e ∷ l) = cond (not (mem (plain_of e.number) k) && every_within k e.cubes) (some e.number) (next_in k l)

-- an order of so many numbers is a list, with zeros after it
pub record PaddedList (l : List ℕ) (count : ℕ) (order : List ℕ) : Type 0 where
  pub number : count ≡ length l
  pub places : order ≡ padded l

-- so many numbers of an order, each that of one of k divisors
pub record Ordered (n m k : ℕ) (words counts : List ℕ) (count : ℕ) (order : List ℕ) : Type 0 where
  pub held : m + k ≤ length counts
  pub variables : n + k ≤ most_variables
  pub short : count ≤ most_variables
  pub counted : count ≤ length order
  pub numbers : (i : ℕ) → i < count → (n ≤ get_or order i 0) × (get_or order i 0 < n + k)
