-- Divisors as numbers of 32 bits: four fields of 8 bits, a literal each.
use Rattle.std.specs.Prelude.{ℕ, ◌+◌, ◌*◌, ◌/◌, ◌%◌, min, max, List, [], ◌∷◌, eqb, ltb, length}
use mathlib.Core.{Path.◌≡◌, Bool.cond, Bool.true}
use Rattle.sets.specs.Lists.{all}
use Rattle.cube.specs.Cube.{width, joined}
use Rattle.extract_laws.specs.Divisor.{Divisor, pair, sum, own, sound}

-- a part of one or two literals: the first, then the second, or the first again where there is one only
unfoldable pub part_code : List ℕ → ℕ
part_code [] = 0
part_code (p ∷ []) = 256 * p + p
part_code (p ∷ q ∷ l) = 256 * p + q

-- two parts: the smaller number first
unfoldable pub two_codes : ℕ → ℕ → ℕ
two_codes x y = 65536 * min x y + max x y

-- a sum by its two parts, which differ; a pair of literals as a part twice
unfoldable pub key_of : Divisor → ℕ
key_of (pair p q) = 65537 * (256 * p + q)
key_of (sum a b) = 65536 * part_code a + part_code b

-- the part of a code
unfoldable pub part_of : ℕ → List ℕ
part_of x = joined (x % 256) (joined (x / 256) [])

-- the divisor of a key
unfoldable pub divisor_at : ℕ → Divisor
divisor_at k = cond (eqb (k / 65536) (k % 65536)) (pair (k / 65536 / 256) (k / 65536 % 256)) (sum (part_of (k / 65536)) (part_of (k % 65536)))

-- one for a part of one literal, else two
unfoldable pub size_at : ℕ → ℕ
size_at x = cond (eqb (x / 256) (x % 256)) 1 2

-- the literals of the divisor's own node
abbrev pub cost : Divisor → ℕ
cost (pair p q) = 2
cost (sum a b) = length a + length b

unfoldable pub cost_at : ℕ → ℕ
cost_at k = cond (eqb (k / 65536) (k % 65536)) 2 (size_at (k / 65536) + size_at (k % 65536))

-- sound, and of literals that a cube can have
pub record Plain (d : Divisor) : Type 0 where
  pub whole : sound d ≡ true
  pub inside : all (all (λ l. ltb l (2 * width))) (own d) ≡ true
