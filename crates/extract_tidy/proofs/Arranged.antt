-- Which test decides that a network is arranged. Assumes nothing.
use Prim.Native.Nat.{ℕ, ◌+◌}
use mathlib.Core.Path.{◌≡◌, sym, ap₂}
use mathlib.Core.Bool.{Bool, true, ◌&&◌}
use mathlib.Core.List.{List}
use Rattle.sets.{specs.Lists.all, proofs.Truth.both, proofs.Lists.◌∈◌, proofs.Lists.all_in}
use Rattle.expression.specs.Expression.{ordered}
use Rattle.network.specs.{Net.nodes, Handed.Shaped, Parts.nodes_of, Parts.Limited, declared.Network.Network}
use Rattle.network.specs.Held.{net_of, sized, ruled, rules}
use Rattle.network.proofs.{Holding.nodes-held, Limits.sized-out}
use Rattle.extract_tidy.specs.Tidy.{arranged}

module _ (n : Network) where
  -- the limits, and then the order
  pub arranged-as : (b : Bool) → sized n ≡ b → (b && all ordered (nodes_of (n.outputs + n.divisors) n.counts n.words)) ≡ arranged n
  unfolding arranged
  arranged-as b e = ap₂ (λ (s : Bool) (fs : List (List (List ℕ))). s && all ordered fs) (sym e) (sym (nodes-held n))

  -- a network by the rules whose nodes stand in cube order is arranged
  pub arranged-in : rules n ≡ true → ((f : List (List ℕ)) → f ∈ nodes (net_of n) → ordered f ≡ true) → arranged n ≡ true
  unfolding arranged rules
  arranged-in h k = rw (both (sized n) (ruled (net_of n)) h).0 (all_in ordered (nodes (net_of n)) k)

  module _ (h : arranged n ≡ true) where
    -- and an arranged network is within the limits, with its nodes in cube order
    pub arranged-parts : (sized n ≡ true) × (all ordered (nodes (net_of n)) ≡ true)
    unfolding arranged
    arranged-parts = both _ _ h

    pub arranged-sized : Shaped n → Limited n
    arranged-sized shape = sized-out n shape arranged-parts.0
