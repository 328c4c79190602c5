-- Literals and cubes as bytes.
use Rattle.std.specs.Prelude.{ℕ, ◌/◌, ◌%◌, cond, List, [], ◌∷◌, ◌++◌, eqb}
use Rattle.letters.specs.Letters.{name_text}

-- `x3` and `x3'`
unfoldable pub literal_text : ℕ → List ℕ
literal_text l = name_text 120 (l / 2) ++ cond (eqb (l % 2) 0) [] (39 ∷ [])

-- literals with `*` between them; the empty cube is `1`
unfoldable pub cube_text : List ℕ → List ℕ
cube_text [] = 49 ∷ []
cube_text (l ∷ []) = literal_text l
cube_text (l ∷ m ∷ c) = literal_text l ++ (42 ∷ cube_text (m ∷ c))
