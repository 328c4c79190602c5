-- The text of a sum as the writers make it: the cubes as they stand, or a product, and after a `+` the rest; and how long it is at most. Assumes nothing.
use Prim.Native.Nat.{ℕ, suc, ◌-◌, ◌<◌, ◌≤◌}
use mathlib.Core.Path.{◌≡◌, refl, sym, ◌∙◌, ap, ap₂}
use mathlib.Core.Bool.{true, false, true≢false, false≢true}
use mathlib.Core.List.{List, [], ◌∷◌, ◌++◌, append_assoc, append-nil}
use mathlib.Core.Logic.{inl, inr}
use native.Mathlib.Omega.{arith}
use Rattle.sets.{specs.Lists.is_nil, proofs.Truth.decided}
use Rattle.letters_products.specs.Products.{literal_text}
use Rattle.expression.specs.Expression.{Cubes, literals_of}
use Rattle.factor.specs.Form.{used_in, most_used, divided_by, rest, form_by}
use Rattle.factor.specs.{Text.sum_text, Text.form_text, Parts.written_sum, Parts.product_of}
use Rattle.factor.proofs.Falling.{literals-fall, divided_by-less, rest-less, form-plain, form-times, form-plus, form-enough}

-- ---- the text of a sum, case by case

module _ (f : Cubes) where
  abbrev l : ℕ
  l = most_used f

  pub sum-plain : used_in l f < 2 → written_sum f ≡ sum_text f
  unfolding written_sum form_text
  sum-plain h = ap form_text (form-plain f (literals_of f) h)

  module _ (many : 2 ≤ used_in l f) where
    k : ℕ
    k = literals_of f - 1

    turns : literals_of f ≡ suc k
    unfolding k
    turns = omega (arith, literals-fall l f)

    divided_by-enough : form_by k (divided_by l f) ≡ form_by (literals_of (divided_by l f)) (divided_by l f)
    unfolding k
    divided_by-enough = form-enough k _ (divided_by l f) (omega (arith, divided_by-less l f many)) (omega arith)

    rest-enough : form_by k (rest l f) ≡ form_by (literals_of (rest l f)) (rest l f)
    unfolding k
    rest-enough = form-enough k _ (rest l f) (omega (arith, rest-less l f many)) (omega arith)

    pub sum-times : is_nil (rest l f) ≡ true → written_sum f ≡ product_of l (divided_by l f)
    unfolding written_sum product_of form_text
    sum-times e =
        ap form_text (ap (λ n. form_by n f) turns ∙ form-times f k many e) ∙ ap (λ q. literal_text l ++ (42 ∷ 40 ∷ (form_text q ++ (41 ∷ [])))) divided_by-enough

    pub sum-plus : is_nil (rest l f) ≡ false → written_sum f ≡ product_of l (divided_by l f) ++ (43 ∷ written_sum (rest l f))
    unfolding written_sum product_of form_text
    sum-plus e =
        ap form_text (ap (λ n. form_by n f) turns ∙ form-plus f k many e)
        ∙ ap₂ (λ q r. literal_text l ++ (42 ∷ 40 ∷ (form_text q ++ (41 ∷ 43 ∷ form_text r)))) divided_by-enough rest-enough
        ∙ sym (append_assoc (literal_text l) _ _ ∙ ap (λ t. literal_text l ++ (42 ∷ 40 ∷ t))
        (append_assoc (form_text (form_by (literals_of (divided_by l f)) (divided_by l f))) _ _))

-- `+` and the rest, if it has cubes
pub after : Cubes → List ℕ
after [] = []
after (c ∷ f) = 43 ∷ written_sum (c ∷ f)

pub after_none : (f : Cubes) → is_nil f ≡ true → after f ≡ []
unfolding after
after_none [] h = refl
after_none (c ∷ f) h = absurd (false≢true h)

pub after-some : (f : Cubes) → is_nil f ≡ false → after f ≡ 43 ∷ written_sum f
unfolding after
after-some [] h = absurd (true≢false h)
after-some (c ∷ f) h = refl

-- l chosen and the cubes parted by it
pub sum-parted : (f : Cubes) (l : ℕ) (q r : Cubes) → l ≡ most_used f → 2 ≤ used_in l f → q ≡ divided_by l f → r ≡ rest l f
    → written_sum f ≡ product_of l q ++ after r
sum-parted f l q r h many a b = rw (a, b, h) (elim (decided (is_nil (rest (most_used f) f))) [
  | inl n ↦ sum-times f (rw h at many) n ∙ sym (append-nil _) ∙ ap (product_of (most_used f) (divided_by (most_used f) f) ++◌) (sym (after_none _ n))
  | inr n ↦ sum-plus f (rw h at many) n ∙ ap (product_of (most_used f) (divided_by (most_used f) f) ++◌) (sym (after-some _ n))
])

pub product-start : (l : ℕ) (f : Cubes) → product_of l f ≡ literal_text l ++ (42 ∷ 40 ∷ (written_sum f ++ (41 ∷ [])))
unfolding product_of
product-start l f = refl
