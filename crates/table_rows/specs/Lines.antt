-- Cube lines.
use Rattle.std.specs.Prelude.{ℕ, suc, ◌*◌, ◌+◌, Bool, true, cond, not, ◌&&◌, ◌||◌, List, [], ◌∷◌, map, eqb, length, take, drop}
use Rattle.std.proofs.Math.Option.{Option, none, some}
use Rattle.sets.specs.Lists.{all, keep}
use Rattle.table_lines.specs.Text.{starts_blank, trim_front}

-- the most inputs, and the most outputs, of a table
abbrev pub most_places : ℕ
most_places = 32

-- one of `0 1 -`
abbrev pub is_place : ℕ → Bool
is_place b = eqb b 48 || (eqb b 49 || eqb b 45)

-- one of `0 1`
abbrev pub is_mark : ℕ → Bool
is_mark b = eqb b 48 || eqb b 49

-- the places of the inputs as bytes, and which outputs have a `1`
pub record CubeLine : Type 0 where
  pub places : List ℕ
  pub marks : List Bool

-- n of `0 1 -`, one or more blanks, m of `0 1`
unfoldable pub cube_line_of : ℕ → ℕ → List ℕ → Option CubeLine
cube_line_of n m c = let p = take n c in let r = drop n c in let o = trim_front r in
    cond (eqb (length p) n && (all is_place p && (starts_blank r && (eqb (length o) m && all is_mark o))))
    (some (record { places = p; marks = map (eqb 49) o })) none

-- the literals of places from variable v on: `1` is the plain literal, `0` the negated
unfoldable pub cube_from : ℕ → List ℕ → List ℕ
cube_from v [] = []
cube_from v (b ∷ t) = cond (eqb b 49) ((2 * v) ∷ cube_from (suc v) t) (cond (eqb b 48) ((2 * v + 1) ∷ cube_from (suc v) t) (cube_from (suc v) t))

-- the rows that a cube line makes: one for each output with a `1`
abbrev pub rows_in : CubeLine → ℕ
rows_in l = length (keep (λ b. b) l.marks)

abbrev pub cube_of : CubeLine → List ℕ
cube_of l = cube_from 0 l.places

-- the setting a agrees with the place b of variable v: `1` wants the variable true, `0` false, `-` takes either
abbrev pub agrees : (ℕ → Bool) → ℕ → ℕ → Bool
agrees a v b = cond (eqb b 49) (a v) (cond (eqb b 48) (not (a v)) (eqb b 45))

-- the setting a covers the places from variable v on
unfoldable pub covers : (ℕ → Bool) → ℕ → List ℕ → Bool
covers a v [] = true
covers a v (b ∷ t) = agrees a v b && covers a (suc v) t
