-- F/l and the rest are the quotient and the remainder of weak division by l, and stand in cube order, at each level of the form. Assumes nothing.
use Prim.Native.Nat.{ℕ, zero, suc, ◌<◌, ◌≤◌}
use mathlib.Core.Path.{◌≡◌, refl, sym, ◌∙◌, ap, subst, fun_ext}
use mathlib.Core.Bool.{true, false, not, and-true}
use mathlib.Core.List.{List, [], ◌∷◌, map}
use mathlib.Core.Logic.{inl, inr}
use native.Mathlib.Omega.{arith}
use lib.Dec.{ltb}
use lib.ListN.{length}
use borrow.Author.Tests.{ne_eqb, ltb-true, ltb-false}
use Rattle.sets.specs.Lists.{all, keep, pairwise, is_nil}
use Rattle.sets.{specs.Literal.opposite_of, proofs.Orders.before-order, proofs.Removal.before-removed}
use Rattle.sets.specs.Sets.{mem, sub, proper, without, before}
use Rattle.sets.proofs.Truth.{both, clash, decided}
use Rattle.sets.proofs.Lists.{◌∈◌, keep_out, pairwise-keep, pairwise-out, pairwise_map}
use Rattle.expression.specs.Expression.{Cubes, is_cube, loose, expression, sort, ordered, literals_of}
use Rattle.expression.proofs.Absorbing.{loose-out}
use Rattle.expression.proofs.Sorting.{loose-flip, ordered-sort, expression-sort, total-sort}
use Rattle.division.{specs.Division.quotient, specs.Division.remainder, proofs.Quotients.cube-asc}
use Rattle.division.proofs.Dividing.{quotient-expression, remainder-expression, quotient-cube, remainder-cube}
use Rattle.factor.specs.Form.{used_in, most_used, divided_by, rest, Form, form_by, form_of}
use Rattle.factor.specs.Meaning.{alone, Divisible, Picked, Divided}
use Rattle.factor.proofs.Falling.{literals-fall, divided_by-less, rest-less, form-plain, form-times, form-plus}

alone-expression : (l : ℕ) → expression (alone l) ≡ true
unfolding proper mem
alone-expression l = rw (ne_eqb (opposite_of l) l (λ e. omega arith))

has-alone : (l : ℕ) → sub (l ∷ []) ≡ mem l
unfolding sub
has-alone l = fun_ext (λ c. and-true (mem l c))

module _ (l : ℕ) (f : Cubes) (ef : expression f ≡ true) (o : ordered f ≡ true) where
  -- in cube order
  pub divided_by-ordered : ordered (divided_by l f) ≡ true
  divided_by-ordered = pairwise_map before before (λ c. without c (l ∷ [])) (keep (mem l) f) go (pairwise-keep before (mem l) f o)
    where
      go : (c d : List ℕ) → c ∈ keep (mem l) f → d ∈ keep (mem l) f → before c d ≡ true → before (without c (l ∷ [])) (without d (l ∷ [])) ≡ true
      go c d m n h =
          let (i, p) = keep_out (mem l) f m in
          let (j, q) = keep_out (mem l) f n in
          elim (pairwise-out loose loose-flip (both (all is_cube f) (pairwise loose f) ef).1 i j) [
            | inl e ↦ clash h (ap (before c) (sym e) ∙ before-order.irrefl c)
            | inr t ↦ let (s, u) = loose-out c d t in before-removed l c d (cube-asc f ef i) (cube-asc f ef j) p q s u ∙ h
          ]

  pub rest-ordered : ordered (rest l f) ≡ true
  rest-ordered = pairwise-keep before (λ c. not (mem l c)) f o

  -- F/l is the quotient, the rest the remainder
  pub divided_by-quotient : divided_by l f ≡ quotient f (alone l)
  divided_by-quotient = sym (quotient-cube f (l ∷ []) ef (alone-expression l) ∙ ap (λ p. sort (map (λ c. without c (l ∷ [])) (keep p f))) (has-alone l)
      ∙ ordered-sort (divided_by l f) divided_by-ordered)

  pub rest-remainder : rest l f ≡ remainder f (alone l)
  rest-remainder = sym (remainder-cube f (l ∷ []) ef (alone-expression l) ∙ ap (λ p. sort (keep (λ c. not (p c)) f)) (has-alone l)
      ∙ ordered-sort (rest l f) rest-ordered)

  -- expressions again
  pub divided_by-expression : expression (divided_by l f) ≡ true
  divided_by-expression = rw divided_by-quotient (quotient-expression f (alone l) ef (alone-expression l))

  pub rest-expression : expression (rest l f) ≡ true
  rest-expression = rw rest-remainder (remainder-expression f (alone l) ef (alone-expression l))

-- ---- at each level

module _ (f : Cubes) (d : Divisible f) (k : ℕ) where
  abbrev l : ℕ
  l = most_used f

  -- no literal is in two cubes
  flat : used_in l f < 2 → Divided f (form_by k f)
  flat few = subst (λ (x : Form). Divided f x) (sym (form-plain f k few)) (d, few, refl)

  module _ (many : 2 ≤ used_in l f) (x : Divided (divided_by l f) (form_by k (divided_by l f))) where
    x' : Divided (quotient f (alone l)) (form_by k (divided_by l f))
    x' = subst (λ (g : Cubes). Divided g (form_by k (divided_by l f))) (divided_by-quotient l f d.whole d.in_order) x

    left : is_nil (remainder f (alone l)) ≡ is_nil (rest l f)
    left = ap is_nil (sym (rest-remainder l f d.whole d.in_order))

    choice : Picked l f
    choice = record { most = refl; many = many }

    -- no cube without it
    alike : is_nil (rest l f) ≡ true → Divided f (form_by (suc k) f)
    alike n = subst (λ (y : Form). Divided f y) (sym (form-times f k many n)) (d, choice, x', left ∙ n)

    -- and some
    mixed : is_nil (rest l f) ≡ false → Divided (rest l f) (form_by k (rest l f)) → Divided f (form_by (suc k) f)
    mixed n y =
        let y' = subst (λ (g : Cubes). Divided g (form_by k (rest l f))) (rest-remainder l f d.whole d.in_order) y in
        subst (λ (z : Form). Divided f z) (sym (form-plus f k many n)) (d, choice, x', left ∙ n, y')

-- with as many turns as there are literals
pub form-divided : (k : ℕ) (f : Cubes) → literals_of f ≤ k → Divisible f → Divided f (form_by k f)
form-divided zero f h d = flat f d 0 (omega (arith, literals-fall (most_used f) f))
form-divided (suc k) f h d =
    let l = most_used f in
    let e = d.whole in
    let o = d.in_order in
    elim (decided (ltb (used_in l f) 2)) [
      | inl t ↦ flat f d (suc k) (ltb-true _ _ t)
      | inr t ↦
          let many : 2 ≤ used_in l f = ltb-false _ _ t in
          let x = form-divided k (divided_by l f) (omega (arith, divided_by-less l f many))
          (record { whole = divided_by-expression l f e o; in_order = divided_by-ordered l f e o }) in
          let y = form-divided k (rest l f) (omega (arith, rest-less l f many)) (record { whole = rest-expression l f e o; in_order = rest-ordered l f e o }) in
          elim (decided (is_nil (rest l f))) [ inl z ↦ alike f d k many x z | inr z ↦ mixed f d k many x z y ]
    ]

pub factored-divided : (f : Cubes) → expression f ≡ true → Divided (sort f) (form_of f)
factored-divided f e =
    let s = expression-sort f e in
    form-divided (literals_of f) (sort f) (omega (arith, total-sort length f)) (record { whole = s.0; in_order = s.1 })
