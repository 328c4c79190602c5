-- What the contracts of the writers say: the cubes as one literal parts them, and the texts made of them.
use Rattle.std.specs.Prelude.{ℕ, ◌-◌, ◌≤◌, ◌≡◌, List, [], ◌∷◌, ◌++◌, length, take, drop}
use Rattle.letters_products.specs.Products.{literal_text}
use Rattle.expression.specs.{Words.cubes_of, Expression.literals_of}
use Rattle.factor.specs.Form.{divided_by, rest, form_by}
use Rattle.factor.specs.Text.{form_text}

-- ---- the cubes, parted

-- there are as many spare places as cubes
abbrev pub Spared : List ℕ → List ℕ → Type 0
Spared ws spare = length (cubes_of ws) ≤ length (cubes_of spare)

-- the m cubes with l stand in front, without it; the rest at the front of the spare words
pub record Gathered (old new spare : List ℕ) (m l : ℕ) : Type 0 where
  pub most : m ≤ length (cubes_of old)
  pub first : take m (cubes_of new) ≡ divided_by l (cubes_of old)
  pub second : take (length (cubes_of old) - m) (cubes_of spare) ≡ rest l (cubes_of old)

-- the m cubes with l, without it, then the rest; both in their order
pub record Parted (old new : List ℕ) (m l : ℕ) : Type 0 where
  pub most : m ≤ length (cubes_of old)
  pub first : take m (cubes_of new) ≡ divided_by l (cubes_of old)
  pub second : drop m (cubes_of new) ≡ rest l (cubes_of old)

-- ---- the texts of the two writers

-- the text of a sum
unfoldable pub written_sum : List (List ℕ) → List ℕ
written_sum f = form_text (form_by (literals_of f) f)

-- the text of l times a sum, which stands in parentheses
unfoldable pub product_of : ℕ → List (List ℕ) → List ℕ
product_of l f = literal_text l ++ (42 ∷ 40 ∷ (written_sum f ++ (41 ∷ [])))
