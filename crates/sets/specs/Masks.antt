-- The literals that two masks hold, at any width.
use Rattle.std.specs.Prelude.{ℕ, zero, suc, ◌+◌, ◌*◌, ◌/◌, ◌%◌, ◌^◌, ◌<◌, ◌≡◌, List, [], ◌∷◌, Bool, true, false, cond, ◌&&◌, eqb, ltb}
use Rattle.sets.specs.Lists.{keep, from}

abbrev pub nonzero : ℕ → Bool
nonzero zero = false
nonzero (suc n) = true

-- bit v of the mask m
unfoldable pub bit : ℕ → ℕ → Bool
bit m v = nonzero (m / 2 ^ v % 2)

-- the first for polarity 0, the second for 1
abbrev pub side : ℕ → ℕ → ℕ → ℕ
side zero p n = p
side (suc s) p n = n

-- literal 2v is bit v of the mask p, literal 2v + 1 bit v of the mask n
unfoldable pub test : ℕ → ℕ → ℕ → Bool
test p n l = bit (side (l % 2) p n) (l / 2)

-- the literals of the masks p and n, of the variables below w
unfoldable pub literals : ℕ → ℕ → ℕ → List ℕ
literals w p n = keep (test p n) (from 0 (2 * w))

-- the bit of literal l in the mask of polarity s; a number past the last literal has none
unfoldable pub single : ℕ → ℕ → ℕ → ℕ
single w l s = cond (ltb l (2 * w) && eqb (l % 2) s) (2 ^ (l / 2)) 0

-- r is the place of the lowest bit of m, a mask of w bits
pub record Lowest (w m r : ℕ) : Type 0 where
  pub inside : r < w
  pub is_set : bit m r ≡ true
  pub clear : (i : ℕ) → i < r → bit m i ≡ false

-- the mask with these bits, the lowest first
unfoldable pub packed : List Bool → ℕ
packed [] = 0
packed (b ∷ l) = cond b 1 0 + 2 * packed l
