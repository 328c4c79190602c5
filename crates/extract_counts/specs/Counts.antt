-- What the cubes of a network add to the gain of each divisor, which is named by its key.
use Rattle.std.specs.Prelude.{ℕ, ◌+◌, ◌-◌, List, [], ◌∷◌, eqb, length}
use mathlib.Core.{Path.◌≡◌, Bool.cond}
use Rattle.sets.specs.{Lists.total, Sets.meet}
use Rattle.extract_laws.specs.Extract.{pairs_in, sum_of}
pub use Rattle.extract_laws.specs.Extract.{gain_in}
use Rattle.extract_gains.specs.Gains.{gain, Sound}
use Rattle.extract_keys.specs.Keys.{key_of, cost}

-- a cube alone: 1 for each pair of its literals
unfoldable pub pairs_gain : ℕ → List ℕ → ℕ
pairs_gain k c = total (λ d. cond (eqb k (key_of d)) 1 0) (pairs_in c)

-- two cubes: the sum that they make, if they make one, gains the literals of their common base, and one less than its own
unfoldable pub two_gain : ℕ → List ℕ → List ℕ → ℕ
two_gain k c d = total (λ e. cond (eqb k (key_of e)) (length (meet c d) + (cost e - 1)) 0) (sum_of c d)

-- a cube with each of some others
unfoldable pub row_gain : ℕ → List ℕ → List (List ℕ) → ℕ
row_gain k c f = total (two_gain k c) f

-- all cubes of a node, and every two of them
unfoldable pub node_gain : ℕ → List (List ℕ) → ℕ
node_gain k [] = 0
node_gain k (c ∷ f) = pairs_gain k c + (row_gain k c f + node_gain k f)

-- every two cubes of a node
unfoldable pub sums_gain : ℕ → List (List ℕ) → ℕ
sums_gain k [] = 0
sums_gain k (c ∷ f) = row_gain k c f + sums_gain k f

unfoldable pub net_gain : ℕ → List (List (List ℕ)) → ℕ
net_gain k fs = total (node_gain k) fs

-- the table says of every divisor the gain that its uses in these nodes give it
pub record Says (t g : List ℕ) (fs : List (List (List ℕ))) : Type 0 where
  pub sound : Sound t g
  pub gains : (k : ℕ) → gain t g k ≡ net_gain k fs
