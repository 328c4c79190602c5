-- Words for the contracts of the private functions: what a set becomes.
use Rattle.std.specs.Prelude.{ℕ}
use mathlib.Core.{Bool.cond, List.List, List.[]}
use Rattle.sets.specs.Sets.{mem}
use Rattle.network_reads.specs.Reading.{reads_of, Marks}

-- what an expression reads, where the variable v is in the list
abbrev pub read_if : ℕ → List (List ℕ) → List ℕ → List ℕ
read_if v f l = cond (mem v l) (reads_of f) []

-- of any list that the literals mark, r marks what f makes
pub record Makes (set r : List ℕ) (f : List ℕ → List ℕ) : Type 0 where
  pub each : (l : List ℕ) → Marks set l → Marks r (f l)
