-- The divisors that an expression of a network hangs on, directly and through others.
use Rattle.std.specs.Prelude.{ℕ, zero, suc, ◌<◌, leb, length, get_or}
use mathlib.Core.{Path.◌≡◌, Logic.◌⊎◌, Bool.Bool, Bool.cond}
use mathlib.Core.List.{List, [], ◌∷◌, Memᴰ}
use Rattle.sets.specs.{Lists.keep, Sets.union}
use Rattle.expression.specs.Value.{lit, value}
use Rattle.network.specs.Net.{Node, Net, nodes, cubes_at}
use Rattle.network.specs.{Meaning.Reads, Meaning.Through, Held.net_of, Held.rules, declared.Network.Network}
use Rattle.network_reads.specs.Reading.{reads_of}

-- what the divisors among the variables read
unfoldable pub read_by : Net → List ℕ → List ℕ
read_by n [] = []
read_by n (v ∷ l) = union (reads_of (cubes_at v n.divisors)) (read_by n l)

-- the variables, and those that they read, so many times over
unfoldable pub reached : ℕ → Net → List ℕ → List ℕ
reached zero n l = l
reached (suc k) n l = reached k n (union l (read_by n l))

-- the divisors that an expression hangs on, directly and through others, ascending
unfoldable pub hangs_on : Net → List (List ℕ) → List ℕ
hangs_on n f = keep (λ v. leb n.inputs v) (reached (length n.divisors) n (reads_of f))

-- those of node i, outputs first, then divisors; none where the network breaks a rule or has no such node
unfoldable pub hangs_at : Network → ℕ → List ℕ
hangs_at n i = cond (rules n) (hangs_on (net_of n) (get_or (nodes (net_of n)) i [])) []

-- an expression reads v, directly or through others
abbrev pub Leans : Net → List (List ℕ) → ℕ → Type 0
Leans n f v = Reads f v ⊎ ((u : ℕ) × Reads f u × Through n u v)

-- the network m has the expressions that n has at the divisors of a list
pub record KeepsAlone (n m : Net) (l : List ℕ) : Type 0 where
  pub inputs : n.inputs ≡ m.inputs
  pub divisors : (v : ℕ) → Memᴰ v l → (e : Node) × Memᴰ e m.divisors × (v ≡ e.number) × (e.cubes ≡ cubes_at v n.divisors)

-- an assignment has the setting s on the inputs, and at each divisor of a list the value of its expression
pub record Fits (n : Net) (s : ℕ → Bool) (l : List ℕ) (a : ℕ → Bool) : Type 0 where
  pub inputs : (i : ℕ) → i < n.inputs → a i ≡ s i
  pub divisors : (v : ℕ) → Memᴰ v l → a v ≡ value (lit a) (cubes_at v n.divisors)
