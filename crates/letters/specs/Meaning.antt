-- What the laws of the texts speak of.
use Rattle.std.specs.Prelude.{ℕ, ◌+◌, ◌-◌, ◌*◌, Bool, ◌&&◌, List, [], ◌∷◌, leb}

-- the number that digits write in base 10, after those that wrote n
unfoldable pub read_back : ℕ → List ℕ → ℕ
read_back n [] = n
read_back n (b ∷ t) = read_back (10 * n + (b - 48)) t

-- `0` to `9`
abbrev pub is_digit : ℕ → Bool
is_digit b = leb 48 b && leb b 57
