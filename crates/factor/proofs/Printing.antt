-- Each kind of form as the paper prints it: `+` between cubes, l, `*`, the form of Q in parentheses, `+` and the form of R. By the clauses. Assumes nothing.
use Prim.Native.Nat.{ℕ}
use mathlib.Core.Path.{◌≡◌, refl, ap}
use mathlib.Core.List.{List, [], ◌∷◌, ◌++◌, map}
use Rattle.letters_products.specs.{Products.literal_text, Products.cube_text, Spelled.spelled, Spelled.between}
use Rattle.factor.specs.Form.{Form, sum, times, plus}
use Rattle.factor.specs.Text.{sum_text, form_text}

pub text-none : form_text (sum []) ≡ spelled "0"
unfolding form_text sum_text spelled
text-none = refl

pub text-cubes : (c : List ℕ) (f : List (List ℕ)) → form_text (sum (c ∷ f)) ≡ between "+" (map cube_text (c ∷ f))
unfolding form_text sum_text between spelled
text-cubes c [] = refl
text-cubes c (d ∷ f) = ap (λ t. cube_text c ++ (43 ∷ t)) (text-cubes d f)

pub text-times : (l : ℕ) (q : Form) → form_text (times l q) ≡ literal_text l ++ (spelled "*(" ++ (form_text q ++ spelled ")"))
unfolding form_text spelled
text-times l q = refl

pub text-plus : (l : ℕ) (q r : Form) → form_text (plus l q r) ≡ literal_text l ++ (spelled "*(" ++ (form_text q ++ (spelled ")+" ++ form_text r)))
unfolding form_text spelled
text-plus l q r = refl
