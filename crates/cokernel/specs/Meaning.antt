-- What the laws of co-kernels speak of: the cubes searched, where the walk stands, and what a branch lists.
use Rattle.std.specs.Prelude.{ℕ, ◌<◌, ◌≤◌, length}
use mathlib.Core.{Path.◌≡◌, Bool.true, Bool.cond}
use mathlib.Core.List.{List, [], ◌∷◌, ◌++◌, Memᴰ}
use Rattle.sets.specs.Sets.{mem, asc}
use Rattle.expression.specs.Expression.{Cubes}
use Rattle.cokernel.specs.Cokernels.{above, common, is_cokernel, beyond}

-- each cube ascending, and no literal from n on
pub record Held (n : ℕ) (f : Cubes) : Type 0 where
  pub rising : (c : List ℕ) → Memᴰ c f → asc c ≡ true
  pub inside : (c : List ℕ) → Memᴰ c f → (l : ℕ) → mem l c ≡ true → l < n

-- literals below j, ascending
pub record Prefix (p : List ℕ) (j : ℕ) : Type 0 where
  pub rising : asc p ≡ true
  pub low : (l : ℕ) → mem l p ≡ true → l < j

-- the same literals below j
abbrev pub SameBelow : ℕ → List ℕ → List ℕ → Type 0
SameBelow j a b = (l : ℕ) → l < j → mem l a ≡ mem l b

-- the walk stands at j with p for a co-kernel: what the cubes above p have in common is one, and is alike with p below j
pub record Alive (f : Cubes) (p : List ℕ) (j : ℕ) : Type 0 where
  pub two : 2 ≤ length (above f p)
  pub alike : SameBelow j (common (above f p)) p

-- what an open branch lists: its own cube, if that is a co-kernel, and those beyond it
abbrev pub branch_cubes : ℕ → Cubes → List ℕ → ℕ → Cubes
branch_cubes k f q j = cond (is_cokernel f q) (q ∷ []) [] ++ beyond k f q j
