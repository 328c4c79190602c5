-- Numbers counted in a window of marks: mark i counts the number base + i, up to 2.
use Rattle.std.specs.Prelude.{ℕ, ◌+◌, ◌<◌, ◌≤◌, min, eqb, ltb, length, get_or}
use mathlib.Core.{Path.◌≡◌, Bool.cond, List.List}
use Rattle.sets.specs.Lists.{total}

-- how often a number is in a list
abbrev pub times : ℕ → List ℕ → ℕ
times v l = total (λ u. cond (eqb v u) 1 0) l

-- the numbers of the list are met once more each, where the mark is a count up to 2
pub record Raised (base : ℕ) (l old new : List ℕ) : Type 0 where
  pub size : length new ≡ length old
  pub each : (i : ℕ) → i < length old → get_or old i 0 ≤ 2 → get_or new i 0 ≡ min 2 (get_or old i 0 + times (base + i) l)

-- the first k marks are zero, the others as they were
pub record Cleared (k : ℕ) (old new : List ℕ) : Type 0 where
  pub size : length new ≡ length old
  pub each : (i : ℕ) → i < length old → get_or new i 0 ≡ cond (ltb i k) 0 (get_or old i 0)

-- how many numbers a window has
abbrev pub window : ℕ
window = 65536

-- the marks are a window
abbrev pub Window : List ℕ → Type 0
Window marks = length marks ≡ window
