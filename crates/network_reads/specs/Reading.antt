-- The variables that an expression reads, and a cube of plain literals as a set of variables.
use Rattle.std.specs.Prelude.{ℕ, ◌/◌, ◌%◌, List, [], ◌∷◌, eqb}
use mathlib.Core.{Path.◌≡◌, Bool.◌&&◌}
use Rattle.sets.specs.Sets.{mem, insert, union}

-- the variables of a cube's literals, ascending
unfoldable pub variables_of : List ℕ → List ℕ
variables_of [] = []
variables_of (l ∷ c) = insert (l / 2) (variables_of c)

-- the variables that an expression reads
unfoldable pub reads_of : List (List ℕ) → List ℕ
reads_of [] = []
reads_of (c ∷ f) = union (variables_of c) (reads_of f)

-- the literals are the plain ones of the variables of a list, and no others
pub record Marks (c l : List ℕ) : Type 0 where
  pub each : (x : ℕ) → mem x c ≡ (eqb (x % 2) 0 && mem (x / 2) l)
