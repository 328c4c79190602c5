-- The texts case by case, as they are written. Assumes nothing.
use Prim.Native.Nat.{ℕ, ◌/◌, ◌%◌}
use mathlib.Core.Path.{◌≡◌, refl, sym, ◌∙◌, ap}
use mathlib.Core.Bool.{true, false, cond}
use mathlib.Core.List.{List, [], ◌∷◌, ◌++◌, append-nil}
use native.Mathlib.Omega.{arith}
use lib.Dec.{eqb}
use borrow.Author.Tests.{eqb-true, eqb-false, eq-eqb, ne_eqb}
use Rattle.letters.specs.Letters.{name_text}
use Rattle.letters_products.specs.Products.{literal_text, cube_text}

-- `'` after a negated literal
abbrev pub mark : ℕ → List ℕ
mark l = cond (eqb (l % 2) 0) [] (39 ∷ [])

pub literal-start : (l : ℕ) → literal_text l ≡ name_text 120 (l / 2) ++ mark l
unfolding literal_text
literal-start l = refl

pub mark-none : (l : ℕ) → eqb (l % 2) 1 ≡ false → mark l ≡ []
mark-none l h = let f = eqb-false (l % 2) 1 h in rw (eq-eqb (l % 2) 0 (omega arith))

pub mark-one : (l : ℕ) → eqb (l % 2) 1 ≡ true → mark l ≡ 39 ∷ []
mark-one l h = rw (ne_eqb (l % 2) 0 (λ z. omega (arith, eqb-true (l % 2) 1 h)))

pub cube-none : cube_text [] ≡ 49 ∷ []
unfolding cube_text
cube-none = refl

pub cube-one : (l : ℕ) → cube_text (l ∷ []) ≡ literal_text l
unfolding cube_text
cube-one l = refl

pub cube-more : (l m : ℕ) (c : List ℕ) → cube_text (l ∷ m ∷ c) ≡ literal_text l ++ (42 ∷ cube_text (m ∷ c))
unfolding cube_text
cube-more l m c = refl

-- literals with `*` before each
abbrev pub starred : List ℕ → List ℕ
starred [] = []
starred (l ∷ c) = (42 ∷ []) ++ (literal_text l ++ starred c)

pub cube-starred : (l : ℕ) (c : List ℕ) → cube_text (l ∷ c) ≡ literal_text l ++ starred c
cube-starred l [] = cube-one l ∙ sym (append-nil (literal_text l))
cube-starred l (m ∷ c) = cube-more l m c ∙ ap (λ t. literal_text l ++ (42 ∷ t)) (cube-starred m c)
