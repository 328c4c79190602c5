-- Weights, the best divisor, and a step.
use Rattle.std.specs.Prelude.{Bool, true, false, cond, ◌&&◌, List, [], ◌∷◌, ◌++◌, map, ℕ, ◌+◌, ◌*◌, ◌-◌, length, ℤ, pos, ◌-ℤ◌}
use Rattle.std.proofs.Math.Option.{Option, none, some}
use Rattle.std.specs.Int.Signed.{lt_z}
use Rattle.sets.specs.Lists.{total}
use Rattle.sets.specs.Sets.{without, lex, before}
use Rattle.expression.specs.Expression.{literals_of}
use Rattle.network.specs.Net.{Node, Net, nodes, variables}
use Rattle.extract_laws.specs.Divisor.{Divisor, pair, sum, own, small, bases, uses, rewrite}

-- the uses in all nodes, the same base in two nodes twice
unfoldable pub all_uses : Net → Divisor → ℕ
all_uses n d = total (uses d) (nodes n)

-- the literals in all bases
unfoldable pub bases_literals : Net → Divisor → ℕ
bases_literals n d = total (λ f. literals_of (bases d f)) (nodes n)

-- pair: uses - 2; sum with s literals in its parts: (literals in all bases) + uses·(s - 1) - s
unfoldable pub weight : Net → Divisor → ℤ
weight n (pair p q) = pos (all_uses n (pair p q)) -ℤ pos 2
weight n (sum a b) =
    pos (bases_literals n (sum a b) + all_uses n (sum a b) * ((length a + length b) - 1)) -ℤ pos (length a + length b)

-- what a divisor saves in one expression, its own node not counted: in each use of a pair a literal; of a sum the bases, and the literals of
-- the parts but one in each use
abbrev pub gain_in : Divisor → List (List ℕ) → ℕ
gain_in (pair p q) f = uses (pair p q) f
gain_in (sum a b) f = literals_of (bases (sum a b) f) + uses (sum a b) f * ((length a + length b) - 1)

-- ---- all divisors of a network

module _ {A B : Type 0} where
  abbrev pub gather : (A → List B) → List A → List B
  gather g [] = []
  gather g (x ∷ l) = g x ++ gather g l

-- the pairs of literals of a cube
unfoldable pub pairs_in : List ℕ → List Divisor
pairs_in [] = []
pairs_in (p ∷ c) = map (pair p) c ++ pairs_in c

-- a sum with its smaller part first
unfoldable pub smaller_first : List ℕ → List ℕ → Divisor
smaller_first a b = cond (before a b) (sum a b) (sum b a)

-- what two cubes are without their common base, where both parts have one or two literals
unfoldable pub sum_of : List ℕ → List ℕ → List Divisor
sum_of c d = cond (small (without c d) && small (without d c)) (smaller_first (without c d) (without d c) ∷ []) []

unfoldable pub sums_in : List (List ℕ) → List Divisor
sums_in [] = []
sums_in (c ∷ f) = gather (sum_of c) f ++ sums_in f

unfoldable pub candidates : Net → List Divisor
candidates n = gather (gather pairs_in) (nodes n) ++ gather sums_in (nodes n)

-- on a tie pairs before sums, then the smaller literal or part first, then the second
unfoldable pub sooner : Divisor → Divisor → Bool
sooner (pair p q) (pair r s) = before (p ∷ q ∷ []) (r ∷ s ∷ [])
sooner (pair p q) (sum c d) = true
sooner (sum a b) (pair r s) = false
sooner (sum a b) (sum c d) = lex before a c (before b d)

-- a greater weight, or on a tie the sooner one
unfoldable pub better : Net → Divisor → Divisor → Bool
better n d e = lex (λ u v. lt_z v u) (weight n d) (weight n e) (sooner d e)

module _ {A : Type 0} where
  abbrev pub top : (A → A → Bool) → A → List A → A
  top r x [] = x
  top r x (y ∷ l) = top r (cond (r y x) y x) l

unfoldable pub best_of : Net → List Divisor → Option Divisor
best_of n [] = none
best_of n (d ∷ l) = some (top (better n) d l)

-- the divisor of greatest weight, first in that order; none where there is no divisor
unfoldable pub best : Net → Option Divisor
best n = best_of n (candidates n)

-- ---- a step

abbrev pub redo : ℕ → Divisor → Node → Node
redo x d e = record { number = e.number; cubes = rewrite x d e.cubes }

-- the next free number: the inputs and the divisors have those before it
unfoldable pub next_free : Net → ℕ
next_free n = variables n

-- the next free number names a node holding the divisor; in every use it replaces the divisor
abbrev pub step : Net → Divisor → Net
step n d = record {
  inputs = n.inputs;
  outputs = map (rewrite (2 * next_free n) d) n.outputs;
  divisors = map (redo (2 * next_free n) d) n.divisors ++ (record { number = next_free n; cubes = own d } ∷ []);
}
