-- A step from a good network leads to a good one, with its cubes in order, and keeps what the network evaluates to. Assumes nothing.
use Prim.Native.Nat.{ℕ, ◌*◌}
use mathlib.Core.Path.{◌≡◌, refl, sym, ap, ◌∙◌, subst}
use mathlib.Core.{Logic.inl, Logic.inr, Bool.Bool, Bool.true}
use mathlib.Core.List.Memᴰ
use mathlib.Core.List.Memᴰ.{head as here}
use mathlib.Core.List.{List, map}
use native.Mathlib.Omega.{arith}
use Rattle.sets.{specs.Masks.bit, specs.Masks.packed, proofs.Lists.◌∈◌}
use Rattle.expression.{specs.Expression.ordered, specs.Value.lit, specs.Value.value, proofs.Values.lit-plain}
use Rattle.network.specs.{Net.Net, Net.nodes, Listing.listing, Evaluation.settle, Evaluation.evaluate}
use Rattle.network.specs.Meaning.{Reads, Consistent}
use Rattle.network.proofs.Evaluating.{evaluate-settled, evaluate-read}
use Rattle.network.proofs.{Listings.good-sound, Mapping.mapped-consistent, Mapping.mapped-answers}
use Rattle.extract_laws.specs.Divisor.{Divisor, pair, sum, own, sound, rewrite}
use Rattle.extract_laws.specs.Extract.{redo, next_free, step}
use Rattle.extract_laws.specs.Meaning.{Good, Fit}
use Rattle.extract_laws.proofs.{Using.sum-parts, Reading.step-acyclic}
use Rattle.extract_laws.proofs.Replacing.{rewrite-value, rewrite-expression, rewrite-ordered, rewrite-reads}
use Rattle.extract_laws.proofs.Making.{next-free, below_free, step-node, step-variables, step-turn}

own-ordered : (d : Divisor) → sound d ≡ true → ordered (own d) ≡ true
own-ordered (pair p q) s = refl
own-ordered (sum a b) s = rw (sum-parts a b s).ordered

module _ (n : Net) (g : Good n) (d : Divisor) (fit : Fit n d) where
  -- a step keeps the rules on networks
  pub step-good : Good (step n d)
  step-good = record {
    expressions = λ f i. elim (step-node n d f i) [
      | inl p ↦ rw p fit.formed
      | inr (h, k, p) ↦ rw p (rewrite-expression (next_free n) d h (g.expressions h k) (below_free n g h k))
    ];
    known = λ f i v r. elim (step-node n d f i) [
      | inl p ↦ omega (arith, step-variables n d, fit.known v (subst (λ z. Reads z v) p r))
      | inr (h, k, p) ↦ elim (rewrite-reads (2 * next_free n) d h v (subst (λ z. Reads z v) p r))
          [ inl (q, w) ↦ omega (arith, next-free n, step-variables n d) | inr q ↦ omega (arith, step-variables n d, g.known h k v q) ]
    ];
    in_turn = step-turn n d g.in_turn;
    acyclic = step-acyclic n g d fit;
  }

  -- and leaves the cubes of every node in cube order
  pub step-ordered : (f : List (List ℕ)) → f ∈ nodes (step n d) → ordered f ≡ true
  step-ordered f i = elim (step-node n d f i) [
    | inl p ↦ rw p (own-ordered d fit.whole)
    | inr (h, k, p) ↦ rw p (rewrite-ordered (next_free n) d h (g.expressions h k) (below_free n g h k))
  ]

  -- ---- the outputs

  module _ (s a : ℕ → Bool) (c : Consistent (step n d) s a) where
    -- a rewritten expression has its value, since the new variable has the divisor's
    kept : (f : List (List ℕ)) → f ∈ nodes n → value (lit a) (rewrite (2 * next_free n) d f) ≡ value (lit a) f
    kept f i = rewrite-value (lit a) f (g.expressions f i) (2 * next_free n) d fit.whole
        (lit-plain a (next_free n) ∙ c.divisors (record { number = next_free n; cubes = own d })
        (Memᴰ.append_right (map (redo (2 * next_free n) d) n.divisors) (here refl)))

  -- so what fits the step's network fits the network before, and outputs after a step are those before, for every setting
  pub step-evaluate : (s : ℕ) → evaluate (step n d) s ≡ evaluate n s
  step-evaluate s =
      let a = settle (step n d) (listing (step n d)) (bit s) in
      let c = evaluate-settled (step n d) (good-sound (step n d) step-good) s in
      evaluate-read (step n d) (good-sound (step n d) step-good) s a c
      ∙ ap packed (mapped-answers (rewrite (2 * next_free n) d) n a (kept (bit s) a c))
      ∙ sym (evaluate-read n (good-sound n g) s a (mapped-consistent (rewrite (2 * next_free n) d) n a (kept (bit s) a c) (bit s)
      (record { inputs = c.inputs; divisors = λ e i. c.divisors e (Memᴰ.append_left _ i) })))
