-- Partners by removal: two cubes make a divisor where a part of one and a part of the other, of one or two literals each, leave the same.
use Rattle.std.specs.Prelude.{ℕ, ◌+◌, ◌*◌, ◌≡◌, Bool, true, ◌&&◌, leb, length}
use mathlib.Core.List.{List, [], ◌∷◌, ◌++◌, map, Memᴰ}
use Rattle.sets.specs.{Lists.any, Lists.keep, Lists.total, Sets.apart, Sets.without, Sets.same}

-- the parts of one or two literals of a cube
unfoldable pub removals : List ℕ → List (List ℕ)
removals [] = []
removals (p ∷ c) = (p ∷ []) ∷ (map (λ q. p ∷ q ∷ []) c ++ removals c)

-- what a search by removal tests: the two parts share no literal, and leave the same of the two cubes
abbrev pub test : List ℕ → List ℕ → List ℕ → List ℕ → Bool
test c d a b = same (without c a) (without d b) && apart a b

-- the cubes of f that a search by removal finds for c
unfoldable pub partners : List ℕ → List (List ℕ) → List (List ℕ)
partners c f = keep (λ d. any (λ a. any (test c d a) (removals d)) (removals c)) f

-- a part of c and a part of d share no literal, and leave the same of the two cubes
pub record Meets (c d a b : List ℕ) : Type 0 where
  pub in_first : Memᴰ a (removals c)
  pub in_second : Memᴰ b (removals d)
  pub left : without c a ≡ without d b
  pub disjoint : apart a b ≡ true

-- the room for the removals of a node
abbrev pub most_removals : ℕ
most_removals = 16384

-- the removals of a node
unfoldable pub removals_of : List (List ℕ) → ℕ
removals_of f = total (λ c. length (removals c)) f

-- the rule by which a node is searched by removal: there is room for its cubes and its removals, and nine times these are at most twice its pairs
-- of cubes
unfoldable pub is_short : List (List ℕ) → Bool
is_short f = leb (length f) most_removals && (leb (removals_of f) most_removals && leb (9 * removals_of f + length f) (length f * length f))
