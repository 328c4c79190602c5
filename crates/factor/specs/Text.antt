-- The text of a form, as bytes.
use Rattle.std.specs.Prelude.{ℕ, List, [], ◌∷◌, ◌++◌}
use Rattle.letters_products.specs.Products.{literal_text, cube_text}
use Rattle.expression.specs.Words.{cubes_of}
use Rattle.factor.specs.Form.{Form, sum, times, plus, form_of}

-- cubes with `+` between them; no cubes is `0`
unfoldable pub sum_text : List (List ℕ) → List ℕ
sum_text [] = 48 ∷ []
sum_text (c ∷ []) = cube_text c
sum_text (c ∷ d ∷ f) = cube_text c ++ (43 ∷ sum_text (d ∷ f))

-- l, `*`, the form of F/l in parentheses; after a `+` the form of the rest, if it has cubes
unfoldable pub form_text : Form → List ℕ
form_text (sum f) = sum_text f
form_text (times l q) = literal_text l ++ (42 ∷ 40 ∷ (form_text q ++ (41 ∷ [])))
form_text (plus l q r) = literal_text l ++ (42 ∷ 40 ∷ (form_text q ++ (41 ∷ 43 ∷ form_text r)))

unfoldable pub text_of : List ℕ → List ℕ
text_of ws = form_text (form_of (cubes_of ws))
