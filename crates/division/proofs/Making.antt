-- What the parts of a division compute is the quotient and the remainder: the lists made of the dividend in cube order. Assumes nothing.
use Prim.Native.Nat.{ℕ, ◌<◌}
use mathlib.Core.Path.{◌≡◌, refl, sym, ◌∙◌, ap, subst}
use mathlib.Core.Bool.{true, not, ◌&&◌}
use mathlib.Core.List.{List, [], ◌∷◌}
use native.Mathlib.Omega.{arith}
use lib.ListN.{length}
use borrow.Author.Tests.{not-true}
use Rattle.sets.{specs.Lists.keep, proofs.Orders.before-order, proofs.Orders.ext-in}
use Rattle.sets.specs.Sets.{sub, asc, without, before}
use Rattle.sets.proofs.Truth.{iff, both, together, clash, refuted}
use Rattle.sets.proofs.Lists.{all_in, all-out, keep-in, keep_out, pairwise-keep}
use Rattle.sets.proofs.Sets.{rejoin, unjoin, union_right}
use Rattle.expression.specs.Expression.{expression, has, sort}
use Rattle.expression.proofs.Members.{has_in, has-out}
use Rattle.expression.proofs.Sorting.{sort-in, sort-out, expression-sort}
use Rattle.division.specs.Division.{quotient, product, remainder}
use Rattle.division.specs.Parts.{unsorted_quotient, spared}
use Rattle.division.proofs.Quotients.{cube-asc, quotient-in, quotient-out, quotient-form, product-in, product-out, remainder-in, remainder-out}
use Rattle.division.proofs.Quotients.{remainder-form}

-- ---- the quotient and the remainder, of the dividend in cube order

pub unsorted_quotient-sorted : (f d : List (List ℕ)) → 0 < length d → sort (unsorted_quotient f d) ≡ quotient f d
unfolding quotient
unsorted_quotient-sorted f [] n = absurd (omega arith)
unsorted_quotient-sorted f (c ∷ d) n = refl

module _ (f d : List (List ℕ)) (ef : expression f ≡ true) (ed : expression d ≡ true) (n : 0 < length d) where
  es : expression (sort f) ≡ true
  es = (expression-sort f ef).0

  -- the order of the dividend does not matter
  quotient-sort : quotient (sort f) d ≡ quotient f d
  quotient-sort = ext-in before before-order (quotient (sort f) d) (quotient f d) (quotient-form (sort f) d es ed).1 (quotient-form f d ef ed).1
      (λ c m. quotient-in f d c ef ed n (cube-asc (quotient (sort f) d) (quotient-form (sort f) d es ed).0 m)
      (λ b i. let r = quotient-out (sort f) d c m b i in (r.0, sort-out f r.1)))
      (λ c m. quotient-in (sort f) d c es ed n (cube-asc (quotient f d) (quotient-form f d ef ed).0 m)
      (λ b i. let r = quotient-out f d c m b i in (r.0, sort-in r.1)))

  pub made-quotient : sort (unsorted_quotient (sort f) d) ≡ quotient f d
  made-quotient = unsorted_quotient-sorted (sort f) d n ∙ quotient-sort

  -- a cube is spared where it is no union
  spared-product : (e : List ℕ) → asc e ≡ true → spared (quotient f d) d e ≡ not (product (quotient f d) d e)
  unfolding spared
  spared-product e a = iff
      (λ h. ap not (refuted (λ t.
      let (c, b, i, j, u) = product-out (quotient f d) d e t in
      let w : without e b ≡ c = ap (λ z. without z b) u ∙ unjoin c b (cube-asc (quotient f d) (quotient-form f d ef ed).0 i) (cube-asc d ed j)
      (quotient-out f d c i b j).0 in
      clash (together (sub b e) (has (without e b) (quotient f d)) (subst (λ z. sub b z ≡ true) (sym u) (union_right c b)) (rw w (has_in i)))
      (not-true _ (all-out (λ b. not (sub b e && has (without e b) (quotient f d))) j h)))))
      (λ h. all_in (λ b. not (sub b e && has (without e b) (quotient f d))) d (λ b j. ap not (refuted (λ t.
      let q = both (sub b e) (has (without e b) (quotient f d)) t in
      clash (product-in (quotient f d) d e (without e b) b (has-out _ _ q.1) j (sym (rejoin e b a (cube-asc d ed j) q.0))) (not-true _ h)))))

  pub made-remainder : keep (spared (quotient f d) d) (sort f) ≡ remainder f d
  made-remainder = ext-in before before-order (keep (spared (quotient f d) d) (sort f)) (remainder f d)
      (pairwise-keep before (spared (quotient f d) d) (sort f) (expression-sort f ef).1) (remainder-form f d ef).1
      (λ e m. let q = keep_out (spared (quotient f d) d) (sort f) m in
      let i = sort-out f q.0 in
      remainder-in f d e i (not-true _ (sym (spared-product e (cube-asc f ef i)) ∙ q.1)))
      (λ e m. let q = remainder-out f d e m in
      keep-in (spared (quotient f d) d) (sort-in q.0) (spared-product e (cube-asc f ef q.0) ∙ ap not q.1))
