-- What a node of a network by value hangs on: which expression it is, what its divisors are, and that an output answers alike wherever
-- these are kept. Assumes nothing.
use Prim.Native.Nat.{ℕ, ◌<◌}
use mathlib.Core.Path.{◌≡◌, sym, ap, ◌∙◌, subst}
use mathlib.Core.Logic.{◌↔◌, inl, inr}
use mathlib.Core.List.Memᴰ
use mathlib.Core.{Bool.true, List.[]}
use lib.ListN.{get_or}
use Rattle.sets.{specs.Masks.bit, proofs.Lists.◌∈◌, proofs.Lists.map-out}
use Rattle.network.specs.Net.{Node, Net, nodes}
use Rattle.network.specs.Meaning.{Reads, IsDivisor, IsVariable, Sound}
use Rattle.network.specs.{Held.net_of, Held.rules, Evaluation.evaluate, declared.Network.Network}
use Rattle.network.proofs.Holding.{nodes-held, output-held, rules-sound}
use Rattle.network_hangs.specs.Hangs.{hangs_on, hangs_at, Leans, KeepsAlone}
use Rattle.network_hangs.proofs.Hanging.{known_at, hangs-iff, hangs-output}

-- the expressions of a network read known variables alone
node-known : (n : Net) → Sound n → (i v : ℕ) → Reads (get_or (nodes n) i []) v → IsVariable n v
node-known n o = known_at n (nodes n) (λ f m v r. elim (Memᴰ.append_cases n.outputs m) [
  | inl i ↦ o.closed.outputs f i v r
  | inr i ↦ let q = map-out (λ (e : Node). e.cubes) n.divisors i in o.closed.divisors q.0 q.1 v (subst (λ g. Reads g v) q.2 r)
])

module _ (n : Network) (h : rules n ≡ true) where
  pub hangs-node : (i : ℕ) → hangs_at n i ≡ hangs_on (net_of n) (get_or (nodes (net_of n)) i [])
  unfolding hangs_at
  hangs-node i = rw h

  -- the divisors that node i reads, directly or through others, and no others
  pub hangs-at : (i v : ℕ) → (v ∈ hangs_at n i) ↔ (IsDivisor (net_of n) v × Leans (net_of n) (get_or (nodes (net_of n)) i []) v)
  hangs-at i v = rw (hangs-node i) (hangs-iff (net_of n) (rules-sound n h) (get_or (nodes (net_of n)) i []) (node-known (net_of n) (rules-sound n h) i) v)

  -- outputs are the first nodes, divisors come after them
  pub hangs-first : (j : ℕ) → j < n.outputs → hangs_at n j ≡ hangs_on (net_of n) (get_or (net_of n).outputs j [])
  hangs-first j k = hangs-node j ∙ ap (hangs_on (net_of n)) (ap (λ l. get_or l j []) (nodes-held n) ∙ sym (output-held n j k))

-- two networks by the rules answer alike at an output that both have, where the divisors that it hangs on are kept
pub hangs-kept : (n m : Network) → rules n ≡ true → rules m ≡ true → (j : ℕ) → j < n.outputs → get_or (net_of n).outputs j [] ≡ get_or (net_of m).outputs j []
    → KeepsAlone (net_of n) (net_of m) (hangs_at n j) → (s : ℕ) → bit (evaluate (net_of n) s) j ≡ bit (evaluate (net_of m) s) j
hangs-kept n m h k j i e q = hangs-output (net_of n) (net_of m) (rules-sound n h) (rules-sound m k) j e
    (subst (KeepsAlone (net_of n) (net_of m)) (hangs-first n h j i) q)
