-- Words for the contracts of the private functions: gains that rise or fall together.
use Rattle.std.specs.Prelude.{ℕ, List}
use mathlib.Core.{Bool.Bool, Bool.cond}
use Rattle.sets.specs.Lists.{total}
use Rattle.extract_laws.specs.Divisor.{pair}
use Rattle.extract_gains.specs.Gains.{Turns, only}
use Rattle.extract_keys.specs.Keys.{key_of}

-- the gains rise by so much, or fall by it
abbrev pub Counts : Bool → List ℕ → List ℕ → List ℕ → List ℕ → (ℕ → ℕ) → Type 0
Counts up t g u h by = Turns t g u h (λ k. cond up 0 (by k)) (λ k. cond up (by k) 0)

-- the pairs of a literal and each of some others
unfoldable pub pairs_with : ℕ → ℕ → List ℕ → ℕ
pairs_with k p c = total (λ q. only (key_of (pair p q)) 1 k) c
