-- Literals and cubes as the paper prints them: `x3`, `x3'`, `*` between literals, `1`. By the clauses of the texts. Assumes nothing.
use Prim.Native.Nat.{ℕ, ◌+◌, ◌*◌, ◌/◌, ◌%◌}
use mathlib.Core.Path.{◌≡◌, refl, ap}
use mathlib.Core.List.{List, [], ◌∷◌, ◌++◌, map, append-nil}
use native.Mathlib.Omega.{arith}
use Rattle.letters.specs.Letters.{decimal}
use Rattle.letters_products.specs.{Products.literal_text, Products.cube_text, Spelled.spelled, Spelled.between}

-- literal 2v is plain
pub literal-plain : (v : ℕ) → literal_text (2 * v) ≡ spelled "x" ++ decimal v
unfolding literal_text spelled
literal-plain v =
    let h : (2 * v) / 2 ≡ v = omega arith in
    let e : (2 * v) % 2 ≡ 0 = omega arith in
    rw (h, e) (append-nil (120 ∷ decimal v))

-- literal 2v+1 is negated
pub literal-negated : (v : ℕ) → literal_text (2 * v + 1) ≡ spelled "x" ++ (decimal v ++ spelled "'")
unfolding literal_text spelled
literal-negated v =
    let h : (2 * v + 1) / 2 ≡ v = omega arith in
    let e : (2 * v + 1) % 2 ≡ 1 = omega arith in
    rw (h, e) refl

pub cube-empty : cube_text [] ≡ spelled "1"
unfolding cube_text spelled
cube-empty = refl

pub cube-between : (l : ℕ) (c : List ℕ) → cube_text (l ∷ c) ≡ between "*" (map literal_text (l ∷ c))
unfolding cube_text between spelled
cube-between l [] = refl
cube-between l (m ∷ c) = ap (λ t. literal_text l ++ (42 ∷ t)) (cube-between m c)
