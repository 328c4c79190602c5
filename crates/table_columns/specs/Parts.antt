-- What the sorts of bytes, and the parts of lines made of them, stand for.
use Rattle.std.specs.Prelude.{ℕ, eqb, Some, None}
use Rattle.std.specs.Prelude as std
use mathlib.Core.{Bool.Bool, Bool.not}
use Rattle.std.proofs.Math.Option.{Option, none, some}
use Rattle.letters.specs.Meaning.{is_digit}
use Rattle.table_lines.specs.Text.{is_blank}
use Rattle.table_rows.specs.Lines.{is_place, is_mark}
use Rattle.table_columns.specs.Forms as forms
use Rattle.table_columns.specs.declared.{Sort.Sort, Part.Part}
use Rattle.table_columns.specs.declared.Sort.TheVariants.{Blank, Digit, NoDigit, Place, Mark, Is}

-- the test of a sort
abbrev pub test_of : Sort → ℕ → Bool
test_of Blank = is_blank
test_of Digit = is_digit
test_of NoDigit = λ b. not (is_digit b)
test_of Place = is_place
test_of Mark = is_mark
test_of (Is x) = eqb x

abbrev pub most_of : std.Option ℕ → Option ℕ
most_of None = none
most_of (Some k) = some k

abbrev pub part_of : Part → forms.Part
part_of p = record { test = test_of p.sort; least = p.least; most = most_of p.most }
