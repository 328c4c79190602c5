-- The rules, and the literal count: which tests decide them, of the nodes as they are held. Assumes nothing.
use Prim.Native.Nat.{ℕ, ◌+◌, ◌≤◌}
use mathlib.Core.Path.{◌≡◌, refl, sym, ap, ◌∙◌}
use mathlib.Core.{Logic.inl, Logic.inr}
use mathlib.Core.Bool.{Bool, true, false, ◌&&◌}
use native.Mathlib.Omega.{arith}
use lib.Dec.{leb, ltb, eqb}
use lib.ListN.{length}
use borrow.Author.Tests.{lt-leb, ltb-false}
use Rattle.sets.specs.Lists.{all}
use Rattle.sets.proofs.Truth.{both, clash, decided}
use Rattle.expression.specs.{Expression.expression, Answers.capped}
use Rattle.network.specs.{Net.nodes, Net.over, Net.literal_count, Listing.listing, Handed.Shaped}
use Rattle.network.specs.Held.{net_of, sized, ruled, rules, most_literals}
use Rattle.network.specs.Answers.{counted, listable, numbers_of}
use Rattle.network.specs.declared.{Network.Network, Number.TheVariants.Is, Number.TheVariants.No}
use Rattle.network_rules.specs.Parts.{literals_within}
use Rattle.network.proofs.{Holding.divisors-held, Limits.sized-out, Limits.rules-literals}

pub leb-capped : (t : ℕ) → leb (capped t) most_literals ≡ leb t most_literals
leb-capped t = elim (decided (ltb t 18446744073709551616)) [
  | inl e ↦ rw e
  | inr e ↦ rw e (sym (lt-leb t most_literals (omega (arith, ltb-false t 18446744073709551616 e))))
]

module _ (n : Network) where
  -- without a listing the rules are broken
  pub rules-no : listable n ≡ false → false ≡ rules n
  unfolding rules ruled listable
  rules-no h = go (sized n) (all expression (nodes (net_of n))) (all (over (net_of n)) (nodes (net_of n))) _ h
    where
      go : (s x r w : Bool) → (s && r) ≡ false → false ≡ (s && (x && (r && w)))
      go false x r w e = refl
      go true false r w e = refl
      go true true false w e = refl
      go true true true w e = clash refl e

  module _ (s : Shaped n) where
    module _ (h : listable n ≡ true) where
      few : n.outputs + n.divisors ≤ length n.counts
      unfolding listable
      few = (sized-out n s (both (sized n) _ h).0).counted

      -- with a listing the rest decides
      pub rules-as : rules n ≡ (eqb (length (numbers_of n)) n.divisors
          && (all expression (nodes (net_of n)) && leb (capped (literal_count (net_of n))) most_literals))
      unfolding rules ruled listable numbers_of
      rules-as =
          let p = both (sized n) (all (over (net_of n)) (nodes (net_of n))) h in
          rw (leb-capped (literal_count (net_of n)), p.0, p.1, divisors-held n few)
          (order (all expression (nodes (net_of n))) (leb (literal_count (net_of n)) most_literals) (eqb (length (listing (net_of n))) n.divisors))
        where
          order : (x t w : Bool) → (x && (t && w)) ≡ (w && (x && t))
          order true true true = refl
          order true true false = refl
          order true false true = refl
          order true false false = refl
          order false t true = refl
          order false t false = refl

    -- a network by the rules has its literal count
    pub within_count : rules n ≡ true → literals_within n ≡ literal_count (net_of n)
    unfolding literals_within rules
    within_count e = rw (both (sized n) (ruled (net_of n)) e).0 (rules-literals n s e)

    pub counted_is : (t : ℕ) → rules n ≡ true → t ≡ literals_within n → Is t ≡ counted n
    unfolding counted
    counted_is t e q = rw e (ap Is (q ∙ within_count e))

  pub counted-no : rules n ≡ false → No 10 ≡ counted n
  unfolding counted
  counted-no e = rw e
