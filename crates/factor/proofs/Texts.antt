-- The text of cubes as it is written: the first cube and the others; the constants. Assumes nothing.
use Prim.Native.Nat.{ℕ}
use mathlib.Core.Path.{◌≡◌, refl, sym, ◌∙◌, ap}
use mathlib.Core.List.{List, [], ◌∷◌, ◌++◌, append-nil}
use Rattle.letters_products.specs.Products.{cube_text}
use Rattle.expression.specs.Expression.{place, sort}
use Rattle.factor.specs.{Form.form_by, Form.form_of, Text.sum_text, Text.form_text}

module _ {A : Type 0} (text : A → List ℕ) (b : ℕ) where
  -- a byte and a text, for each
  pub marked : List A → List ℕ
  marked [] = []
  marked (x ∷ l) = b ∷ (text x ++ marked l)

  pub marked-nil : marked [] ≡ []
  unfolding marked
  marked-nil = refl

  pub marked-cons : (x : A) (l : List A) → marked (x ∷ l) ≡ b ∷ (text x ++ marked l)
  unfolding marked
  marked-cons x l = refl

  -- texts with the byte between them are the first and then the others, each with the byte before it
  marked-first : (all : List A → List ℕ) → ((x : A) → all (x ∷ []) ≡ text x) → ((x y : A) (l : List A) → all (x ∷ y ∷ l) ≡ text x ++ (b ∷ all (y ∷ l)))
      → (x : A) (l : List A) → all (x ∷ l) ≡ text x ++ marked l
  unfolding marked
  marked-first all one more x [] = one x ∙ sym (append-nil (text x))
  marked-first all one more x (y ∷ l) = more x y l ∙ ap (λ t. text x ++ (b ∷ t)) (marked-first all one more y l)

-- `+` and a cube, for each
abbrev pub plussed : List (List ℕ) → List ℕ
plussed f = marked cube_text 43 f

pub sum_first : (c : List ℕ) (f : List (List ℕ)) → sum_text (c ∷ f) ≡ cube_text c ++ plussed f
unfolding sum_text
sum_first c f = marked-first cube_text 43 sum_text (λ d. refl) (λ d e s. refl) c f

pub sum-none : sum_text [] ≡ 48 ∷ []
unfolding sum_text
sum-none = refl

-- ---- the constants

pub text-zero : form_text (form_of []) ≡ 48 ∷ []
unfolding form_text form_by sum_text sort
text-zero = refl

pub text-one : form_text (form_of ([] ∷ [])) ≡ 49 ∷ []
unfolding form_text form_by sum_text cube_text sort place
text-one = refl
