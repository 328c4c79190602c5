-- What the steps of the search for co-kernels answer.
use Rattle.std.specs.Prelude.{ℕ, ◌+◌, ◌*◌, ◌<◌, ◌≤◌, min, ◌≡◌, Bool, true, cond, List, [], ◌∷◌, length}
use Rattle.sets.specs.Sets.{mem, insert}
use Rattle.cube.specs.Cube.{width}
use Rattle.expression.specs.Words.{cubes_of, Placed}
use Rattle.cokernel.specs.Cokernels.{above, common, is_cokernel, opens}

-- the cube c alone, or none
abbrev pub only : Bool → List ℕ → List (List ℕ)
only b c = cond b (c ∷ []) []

-- n cubes contain c, and m is what they have in common
pub record Shared (f : List (List ℕ)) (c : List ℕ) (n : ℕ) (m : List ℕ) : Type 0 where
  pub number : n ≡ length (above f c)
  pub common : m ≡ common (above f c)

-- what becomes of p with the literal j: the cube q, what the cubes above it have in common, whether it opens a branch, and whether it is a co-kernel
pub record Branched (f : List (List ℕ)) (p : List ℕ) (j : ℕ) (q m : List ℕ) (o e : Bool) : Type 0 where
  pub cube : q ≡ insert j p
  pub common : m ≡ common (above f q)
  pub opened : o ≡ opens f j q
  pub closed : e ≡ is_cokernel f q

-- the walk stands at literal j with p below it, and m is what the cubes above p have in common
pub record Walks (f : List (List ℕ)) (p m : List ℕ) (j : ℕ) : Type 0 where
  pub inside : j ≤ 2 * width
  pub low : (l : ℕ) → mem l p ≡ true → l < j
  pub common : m ≡ common (above f p)

-- the cubes g are counted from place i on, up to most, and r is the place after them; where there is a place for each, they stand there
pub record Walked (old new : List ℕ) (most i : ℕ) (g : List (List ℕ)) (r : ℕ) : Type 0 where
  pub next : r ≡ min most (i + length g)
  pub placed : i + length g ≤ most → i + length g ≤ length (cubes_of old) → Placed old new i g
