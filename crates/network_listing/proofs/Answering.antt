-- The listing as it is handed out: each number is that of a divisor, and by the rules it is whole. Assumes nothing.
use Prim.Native.Nat.{ℕ, ◌+◌, ◌-◌}
use mathlib.Core.Path.{◌≡◌, refl, ap, ap₂, ◌∙◌}
use mathlib.Core.Bool.{Bool, true, false, cond}
use mathlib.Core.List.{List, []}
use native.Mathlib.Omega.{arith}
use lib.ListN.{length, get_or, drop, replicate, length-append, get_or-append}
use Rattle.sets.{specs.Lists.all, proofs.Truth.both, proofs.Truth.together, proofs.Lists.all-cong, proofs.Places.at_in}
use Rattle.expression.specs.Expression.{expression}
use Rattle.network.specs.Net.{Net, nodes, variables, over}
use Rattle.network.{specs.Listing.listing, specs.declared.Network.Network, specs.declared.Listed.Listed, proofs.Numbering.over-turn}
use Rattle.network.specs.Held.{net_of, sized, reach, ruled, rules, most_variables}
use Rattle.network.specs.Answers.{listable, numbers_of, listed_of}
use Rattle.network.specs.Parts.{nodes_of, held_in, net_at, InLimits, Limited}
use Rattle.network.proofs.{Listings.listing-length, Listings.listing-number, Holding.nodes-held, Holding.divisors-held}
use Rattle.network.proofs.Parts.{divisor_range}
use Rattle.network_listing.specs.Parts.{PaddedList, Ordered}

module _ (n m k : ℕ) (words counts : List ℕ) (z : InLimits n m k words counts) (count : ℕ) (order : List ℕ) where
  abbrev held : Net
  held = net_at n m k counts words

  -- each listed number is that of a divisor
  pub ordered-listing : PaddedList (listing held) count order → Ordered n m k words counts count order
  ordered-listing o = record {
    held = z.counted;
    variables = z.variables;
    short = omega (arith, o.number, z.variables, listing-length held, divisors-held (held_in n m k counts words) z.counted);
    counted = rw (o.places, length-append (listing held) (replicate (most_variables - length (listing held)) 0)) (omega (arith, o.number));
    numbers = λ i h.
        let q : get_or order i 0 ≡ get_or (listing held) i 0 = ap (λ l. get_or l i 0) o.places
        ∙ get_or-append (listing held) (replicate (most_variables - length (listing held)) 0) 0 i (omega (arith, o.number)) in
        rw q (divisor_range counts words n m k z.counted _ (listing-number held _ (at_in (listing held) i 0 (omega (arith, o.number)))));
  }

-- ---- what is handed out

module _ (n : Network) where
  pub listed-as : (r : Listed) (b : Bool) → listable n ≡ b → PaddedList (cond b (listing (net_of n)) []) r.count r.order → r ≡ listed_of n
  unfolding listed_of numbers_of
  listed-as r b e l = rw e (ap₂ (λ (c : ℕ) (o : List ℕ). record { count = c; order = o }) l.number l.places)

  pub listable-no : sized n ≡ false → listable n ≡ false
  unfolding listable
  listable-no e = rw e

  pub listable-as : (b : Bool) → Limited n → sized n ≡ true
      → all (reach (n.inputs + n.divisors)) (nodes_of (n.outputs + n.divisors) n.counts n.words) ≡ b → listable n ≡ b
  unfolding listable
  listable-as b z e q =
      rw e
      (all-cong (over (net_of n)) (reach (variables (net_of n))) (nodes (net_of n))
      (λ f m. over-turn (net_of n) (drop n.outputs (nodes_of (n.outputs + n.divisors) n.counts n.words)) refl f)
      ∙ ap₂ (λ (k : ℕ) (fs : List (List (List ℕ))). all (reach (n.inputs + k)) fs) (divisors-held n z.counted) (nodes-held n)
      ∙ q)

  pub listable-sized : listable n ≡ true → sized n ≡ true
  unfolding listable
  listable-sized h = (both (sized n) _ h).0

  -- where there is one
  pub listed-out : (r : Listed) → listable n ≡ true → r ≡ listed_of n → PaddedList (listing (net_of n)) r.count r.order
  unfolding listed_of numbers_of
  listed-out r e q = record {
    number = ap (λ (l : Listed). l.count) q ∙ rw e;
    places = ap (λ (l : Listed). l.order) q ∙ rw e;
  }

  -- by the rules there is
  pub rules-listable : rules n ≡ true → listable n ≡ true
  unfolding rules ruled listable
  rules-listable h =
      let a = both (sized n) (ruled (net_of n)) h in
      let e = both (all expression (nodes (net_of n))) _ a.1 in
      let f = both (all (over (net_of n)) (nodes (net_of n))) _ e.1 in
      together (sized n) _ a.0 f.0
