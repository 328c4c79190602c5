-- The nodes that counts cut from cubes.
use Rattle.std.specs.Prelude.{ℕ, List, [], ◌∷◌, take, drop}
use Rattle.sets.specs.Lists.{total}

-- the cubes, cut into as many at a time as the counts say
unfoldable pub cut : List ℕ → List (List ℕ) → List (List (List ℕ))
cut [] f = []
cut (n ∷ ns) f = take n f ∷ cut ns (drop n f)

-- the sum of the counts before place i
abbrev pub count_before : ℕ → List ℕ → ℕ
count_before i counts = total (λ c. c) (take i counts)
