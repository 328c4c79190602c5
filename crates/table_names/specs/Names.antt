-- The names that the comment lines of a table give its inputs: `# x0 tank high`.
use Rattle.std.specs.Prelude.{ℕ, ◌+◌, ◌/◌, ◌%◌, Bool, false, cond, List, [], ◌∷◌, eqb, ltb, length}
use Rattle.sets.specs.Lists.{is_nil}
use Rattle.table_lines.specs.Text.{trim_front, trim_end, lines_of}
use Rattle.table_rows.specs.Lines.{is_place}

-- what follows the byte b where the text begins with it, else nothing
unfoldable pub after : ℕ → List ℕ → List ℕ
after b [] = []
after b (x ∷ t) = cond (eqb x b) t []

-- the same for a number in decimal, of one digit or two
unfoldable pub after_number : ℕ → List ℕ → List ℕ
after_number i t = cond (ltb i 10) (after (48 + i) t) (after (48 + i % 10) (after (48 + i / 10) t))

-- a name after one or more blanks, without those after it
unfoldable pub name_after : List ℕ → List ℕ
name_after t = let n = trim_front t in cond (ltb (length n) (length t)) (trim_end n) []

-- the name of input i in a line: `#`, `x` and its number, then the name; else nothing
unfoldable pub named : ℕ → List ℕ → List ℕ
named i l = name_after (after_number i (after 120 (trim_front (after 35 (trim_front l)))))

abbrev pub starts_place : List ℕ → Bool
starts_place [] = false
starts_place (b ∷ t) = is_place b

-- a line begins as a cube line does, with one of `0 1 -`
unfoldable pub begins_cube : List ℕ → Bool
begins_cube l = starts_place (trim_front l)

-- the first name of input i in the lines before any cube line, else nothing
unfoldable pub first_name : ℕ → List (List ℕ) → List ℕ
first_name i [] = []
first_name i (l ∷ ls) = cond (is_nil (named i l)) (cond (begins_cube l) [] (first_name i ls)) (named i l)

-- the name of input i in the text of a table
unfoldable pub name_of : ℕ → List ℕ → List ℕ
name_of i t = cond (ltb i 100) (first_name i (lines_of t)) []

-- the number of an input as a comment line writes it
abbrev pub written : ℕ → List ℕ
written i = cond (ltb i 10) ((48 + i) ∷ []) ((48 + i / 10) ∷ (48 + i % 10) ∷ [])
