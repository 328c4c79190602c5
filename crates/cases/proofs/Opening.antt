-- The walk for co-kernels with a branch looked at only where it opens: it lists the same, and is cheap to compute. Assumes nothing.
use Prim.Native.Nat.{ℕ, zero, suc, ◌*◌}
use mathlib.Core.Path.{◌≡◌, refl}
use mathlib.Core.Bool.{Bool, true, false, cond}
use mathlib.Core.List.{List, [], ◌∷◌, ◌++◌}
use Rattle.sets.specs.Sets.{insert}
use Rattle.cube.specs.Cube.{width}
use Rattle.cokernel.specs.Cokernels.{is_cokernel, opens, beyond, cokernels}

-- what lies beyond p from the literal j on, k literals being left; a branch that does not open is not walked
unfoldable pub opened : ℕ → List (List ℕ) → List ℕ → ℕ → List (List ℕ)
opened zero f p j = []
opened (suc k) f p j = elim (opens f j (insert j p)) [
  | true ↦ (cond (is_cokernel f (insert j p)) (insert j p ∷ []) [] ++ opened k f (insert j p) (suc j)) ++ opened k f p (suc j)
  | false ↦ opened k f p (suc j)
]

pub beyond-opened : (k : ℕ) (f : List (List ℕ)) (p : List ℕ) (j : ℕ) → beyond k f p j ≡ opened k f p j
unfolding beyond opened
beyond-opened zero f p j = refl
beyond-opened (suc k) f p j = rw (beyond-opened k f (insert j p) (suc j), beyond-opened k f p (suc j)) (by_cases (opens f j (insert j p)) _ _)
  where
    by_cases : (b : Bool) (l m : List (List ℕ)) → cond b l [] ++ m ≡ elim b [ true ↦ l ++ m | false ↦ m ]
    by_cases true l m = refl
    by_cases false l m = refl

pub cokernels-opened : (f : List (List ℕ)) → cokernels f ≡ cond (is_cokernel f []) ([] ∷ []) [] ++ opened (2 * width) f [] 0
unfolding cokernels
cokernels-opened f = rw beyond-opened
