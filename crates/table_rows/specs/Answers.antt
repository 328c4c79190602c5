-- What reading a cube line answers.
use Rattle.std.specs.Prelude.{ℕ, eqb, leb, length}
use mathlib.Core.{Bool.cond, Bool.◌&&◌, List.List, List.map}
use Rattle.std.proofs.Math.Option.{Option, none, some}
use Rattle.sets.specs.{Lists.all, Masks.packed}
use Rattle.cube.specs.Cube.{lits}
use Rattle.table_rows.specs.Lines.{most_places, is_mark, CubeLine, cube_line_of, cube_of, rows_in}
use Rattle.table_rows.specs.declared.{Parsed.Parsed, Parsed.TheVariants.Line, Parsed.TheVariants.Nothing}
use Rattle.table_rows.specs.declared.{Setting.Setting, Setting.TheVariants.Is, Setting.TheVariants.Wrong}

-- a cube line's cube, the outputs with a `1` as a mask, and how many there are
pub record Entry : Type 0 where
  pub cube : List ℕ
  pub marks : ℕ
  pub rows : ℕ

abbrev pub parsed_of : Parsed → Option Entry
parsed_of (Line c m r) = some (record { cube = lits c; marks = m; rows = r })
parsed_of Nothing = none

abbrev pub entry_of : Option CubeLine → Option Entry
entry_of none = none
entry_of (some l) = some (record { cube = cube_of l; marks = packed l.marks; rows = rows_in l })

-- numbers of inputs and outputs past the most are none of a table's
unfoldable pub parsing : ℕ → ℕ → List ℕ → Option Entry
parsing n m c = cond (leb n most_places && leb m most_places) (entry_of (cube_line_of n m c)) none

-- the setting of n inputs that a word writes: n of `0 1`, input i on where character i is `1`
unfoldable pub setting_of : ℕ → List ℕ → Setting
setting_of n w = cond (leb n most_places && (eqb (length w) n && all is_mark w)) (Is (packed (map (eqb 49) w))) Wrong
