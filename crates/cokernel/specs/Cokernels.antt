-- The co-kernels of an expression.
use Rattle.std.specs.Prelude.{ℕ, zero, suc, ◌*◌, Bool, cond, ◌&&◌, List, [], ◌∷◌, ◌++◌, leb, ltb, length}
use Rattle.sets.specs.Lists.{keep}
use Rattle.sets.specs.Sets.{sub, insert, meet, same}
use Rattle.cube.specs.Cube.{width}

-- the cubes that contain c
abbrev pub above : List (List ℕ) → List ℕ → List (List ℕ)
above f c = keep (sub c) f

-- the literals common to all of some cubes; none for no cubes
unfoldable pub common : List (List ℕ) → List ℕ
common [] = []
common (c ∷ []) = c
common (c ∷ d ∷ f) = meet c (common (d ∷ f))

-- c is a co-kernel: at least two cubes contain it, and the literals common to all those are exactly c
unfoldable pub is_cokernel : List (List ℕ) → List ℕ → Bool
is_cokernel f c = leb 2 (length (above f c)) && same (common (above f c)) c

-- the literals below j
abbrev pub below : ℕ → List ℕ → List ℕ
below j c = keep (λ l. ltb l j) c

-- two cubes contain c, and what they have in common has no literal below j that c lacks
unfoldable pub opens : List (List ℕ) → ℕ → List ℕ → Bool
opens f j c = leb 2 (length (above f c)) && same (below j (common (above f c))) (below j c)

-- those that have the literals of p below j and go on from there, k literals being left: first those with the literal j, then those without it
unfoldable pub beyond : ℕ → List (List ℕ) → List ℕ → ℕ → List (List ℕ)
beyond zero f p j = []
beyond (suc k) f p j =
    cond (opens f j (insert j p)) (cond (is_cokernel f (insert j p)) (insert j p ∷ []) [] ++ beyond k f (insert j p) (suc j)) [] ++ beyond k f p (suc j)

-- every co-kernel, in cube order: the empty cube first, if it is one
unfoldable pub cokernels : List (List ℕ) → List (List ℕ)
cokernels f = cond (is_cokernel f []) ([] ∷ []) [] ++ beyond (2 * width) f [] 0
