-- Cube lines in the paper's words.
use Rattle.std.specs.Prelude.{ℕ, List, ◌++◌, map, eqb, length}
use mathlib.Core.{Path.◌≡◌, Bool.true}
use Rattle.sets.specs.Lists.{all}
use Rattle.table_lines.specs.Text.{Blanks}
use Rattle.table_rows.specs.Lines.{is_place, is_mark, CubeLine}

-- n places, each one of `0 1 -`, and m marks
pub record LineOf (n m : ℕ) (l : CubeLine) : Type 0 where
  pub places : length l.places ≡ n
  pub bytes : all is_place l.places ≡ true
  pub marks : length l.marks ≡ m

-- c is n of `0 1 -`, one or more blanks and m of `0 1`, and l holds the first and says which of the others are `1`
pub record Writes (n m : ℕ) (c : List ℕ) (l : CubeLine) : Type 0 where
  pub blanks : List ℕ
  pub signs : List ℕ
  pub text : c ≡ l.places ++ (blanks ++ signs)
  pub number : length l.places ≡ n
  pub places : all is_place l.places ≡ true
  pub between : Blanks blanks
  pub count : length signs ≡ m
  pub each : all is_mark signs ≡ true
  pub marks : l.marks ≡ map (eqb 49) signs
