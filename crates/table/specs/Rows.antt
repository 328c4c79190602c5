-- The rows of a table in the paper's words, and which of their cubes stand.
use Rattle.std.specs.Prelude.{ℕ, get_or}
use mathlib.Core.{Path.◌≡◌, Bool.true, Bool.false, List.List, List.Memᴰ}
use Rattle.sets.specs.Sets.{sub}
use Rattle.table_rows.specs.Lines.{CubeLine, cube_of}

-- c is the cube of one of the lines that has a `1` for output j
pub record RowOf (lines : List CubeLine) (j : ℕ) (c : List ℕ) : Type 0 where
  pub line : CubeLine
  pub there : Memᴰ line lines
  pub one : get_or line.marks j false ≡ true
  pub cube : c ≡ cube_of line

-- and no other such cube is contained in it
pub record NotDropped (lines : List CubeLine) (j : ℕ) (c : List ℕ) : Type 0 where
  pub row : RowOf lines j c
  pub alone : (d : List ℕ) → RowOf lines j d → sub d c ≡ true → d ≡ c
