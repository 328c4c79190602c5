-- Numbers and names as bytes.
use Rattle.std.specs.Prelude.{ℕ, zero, suc, ◌+◌, ◌/◌, ◌%◌, cond, List, [], ◌∷◌, ◌++◌, ltb}

-- a number in decimal, of at most k digits before the last one
unfoldable pub digits : ℕ → ℕ → List ℕ
digits zero n = (48 + n % 10) ∷ []
digits (suc k) n = cond (ltb n 10) ((48 + n) ∷ []) (digits k (n / 10) ++ ((48 + n % 10) ∷ []))

-- a number in decimal: the most significant digit first, and none more than it needs
unfoldable pub decimal : ℕ → List ℕ
decimal n = digits n n

-- a letter and a number: `x3`, `y0`
abbrev pub name_text : ℕ → ℕ → List ℕ
name_text b n = b ∷ decimal n
