-- Equal byte strings, as `==` of slices finds them. Assumes nothing.
use Rattle.std.proofs.Common.{◌≡◌, refl, ap, ℕ, ◌&&◌, List, [], ◌∷◌, eqb}
use Rattle.std.specs.Cmp.Lexicographic.{pointwise}
use Rattle.sets.specs.Sets.{same}

pub same_is : (a b : List ℕ) → pointwise eqb a b ≡ same a b
unfolding same
same_is [] [] = refl
same_is [] (y ∷ b) = refl
same_is (x ∷ a) [] = refl
same_is (x ∷ a) (y ∷ b) = ap (eqb x y &&◌) (same_is a b)
