-- Counting the uses of a sum: cube by cube, and node by node. Assumes nothing.
use Prim.Native.Nat.{ℕ, ◌+◌, ◌≤◌}
use mathlib.Core.Path.{◌≡◌, sym, ◌∙◌}
use mathlib.Core.Bool.{true, false}
use mathlib.Core.List.{List, ◌∷◌}
use native.Mathlib.Omega.{arith}
use lib.ListN.{length}
use Rattle.sets.specs.Lists.{all, keep, total}
use Rattle.sets.proofs.Lists.{keep-length, total-le}
use Rattle.expression.specs.{Words.cubes_of, Expression.ordered}
use Rattle.network.{specs.Held.most_cubes}
use Rattle.extract_laws.specs.Divisor.{sum, use_of, uses}
use Rattle.network.{specs.Net.nodes, specs.Held.net_of, specs.Held.used, specs.Handed.Shaped, specs.declared.Network.Network}
use Rattle.network.proofs.Holding.{nodes-held, cubes-held}
use Rattle.network_nodes.specs.Nodes.{cut}
use Rattle.extract_tidy.{specs.Tidy.arranged, proofs.Arranged.arranged-parts, proofs.Arranged.arranged-sized}

-- ---- in one node

-- so many uses are counted, and with those among the cubes that are left they are all
pub record Counting (a b : List ℕ) (f rest : List (List ℕ)) (u : ℕ) : Type 0 where
  pub few : u + length rest ≤ length f
  pub uses : u + length (keep (use_of a b f) rest) ≡ uses (sum a b) f

module _ {a b : List ℕ} {f rest g : List (List ℕ)} {d : List ℕ} {u : ℕ} (c : Counting a b f rest u) (h : rest ≡ d ∷ g) where
  pub counting-off : use_of a b f d ≡ false → Counting a b f g u
  counting-off e = let k = rw h at c.few in record { few = omega arith; uses = rw (h, e) at c.uses }

  pub counting-on : use_of a b f d ≡ true → Counting a b f g (u + 1)
  counting-on e =
      let k = rw h at c.few in
      let x = rw (h, e) at c.uses in
      record { few = omega arith; uses = omega arith }

-- ---- in the nodes that words and counts hold

-- so many uses are counted, and with those in the nodes that are left they are all; each node is in cube order, and has no more cubes than a network
pub record Summing (a b : List ℕ) (fs rest : List (List (List ℕ))) (u : ℕ) : Type 0 where
  pub uses : u + total (uses (sum a b)) rest ≡ total (uses (sum a b)) fs
  pub sorted : all ordered rest ≡ true
  pub few : total length rest ≤ most_cubes

-- those in the next node are among all
pub summing-room : {a b : List ℕ} {fs rest gs : List (List (List ℕ))} {f : List (List ℕ)} {u : ℕ} → Summing a b fs rest u → rest ≡ f ∷ gs
    → u + uses (sum a b) f ≤ total (uses (sum a b)) fs
summing-room s h = let x = rw h at s.uses in omega arith

module _ (n : Network) (h : arranged n ≡ true) (shape : Shaped n) where
  -- no more cubes than a network may have
  net-few : total length (nodes (net_of n)) ≤ most_cubes
  net-few = let s = arranged-sized n h shape in omega (arith, cubes-held n (omega (arith, s.cubes, shape.places)), s.cubes)

  -- at first none is counted
  pub summing_none : (a b : List ℕ) {gs : List (List (List ℕ))} → gs ≡ cut (used n) (cubes_of n.words) → Summing a b (nodes (net_of n)) gs 0
  summing_none a b {gs} q = let e : gs ≡ nodes (net_of n) = q ∙ sym (nodes-held n) in rw e (record { uses = omega arith; sorted = (arranged-parts n h).1; few = net-few })

  -- so the number stays small
  pub uses-few : (a b : List ℕ) → total (uses (sum a b)) (nodes (net_of n)) ≤ most_cubes
  uses-few a b = omega (arith, total-le (uses (sum a b)) length (nodes (net_of n)) (λ f m. keep-length (use_of a b f) f), net-few)
