-- The column of the refusal of a line.
use Rattle.std.specs.Prelude.{ℕ, zero, suc, ◌+◌, ◌-◌, cond, not, List, [], ◌∷◌, eqb, length, drop}
use Rattle.std.proofs.Math.Option.{Option, none, some}
use Rattle.letters.specs.Meaning.{is_digit}
use Rattle.table_lines.specs.Text.{trim_front, content, content_span}
use Rattle.table_kinds.specs.{Kinds.kind_of, declared.Kind.Kind}
use Rattle.table_kinds.specs.declared.Kind.TheVariants.{Empty, Inputs, Outputs, Products, End, Other}
use Rattle.table_columns.specs.Forms.{front, forms, farthest}

-- a number of inputs or outputs, 0 while it is missing
abbrev pub unless_zero : ℕ → Option ℕ
unless_zero zero = none
unless_zero (suc n) = some (suc n)

abbrev pub or_zero : Option ℕ → ℕ
or_zero none = 0
or_zero (some n) = n

-- the place of the first digit; the length where there is none
abbrev pub digit_place : List ℕ → ℕ
digit_place c = front (λ b. not (is_digit b)) (length c) c

-- the place of the `1` before which k others stand; the length where there is none
unfoldable pub one_place : ℕ → List ℕ → ℕ
one_place k [] = 0
one_place zero (b ∷ t) = cond (eqb b 49) 0 (suc (one_place zero t))
one_place (suc k) (b ∷ t) = suc (one_place (cond (eqb b 49) k (suc k)) t)

-- the place of the output character of a cube line of n inputs that makes a row more than k
abbrev pub row_place : ℕ → ℕ → List ℕ → ℕ
row_place n k c = let o = trim_front (drop n c) in (length c - length o) + one_place k o

-- by its kind: 0 for a line that is spelled as one; for another how far some good line agrees with it
abbrev pub kind_place : Kind → Option ℕ → Option ℕ → List ℕ → ℕ
kind_place Empty w t c = 0
kind_place (Inputs n) w t c = 0
kind_place (Outputs n) w t c = 0
kind_place (Products n) w t c = 0
kind_place End w t c = 0
kind_place Other w t c = farthest (forms w t) c

-- the place, in what is left of a line, of its refusal by number r: w and t are the inputs and outputs known before it, k the rows
-- that may still come
unfoldable pub place_in : ℕ → Option ℕ → Option ℕ → ℕ → List ℕ → ℕ
place_in r w t k c = cond (eqb r 3) (digit_place c) (cond (eqb r 6) (row_place (or_zero w) k c) (kind_place (kind_of c) w t c))

-- the place in the whole line; one past the line where what is left merely ends too soon
unfoldable pub place_of : ℕ → Option ℕ → Option ℕ → ℕ → List ℕ → ℕ
place_of r w t k l = let p = place_in r w t k (content l) in
    cond (eqb p (length (content l))) (length l) ((content_span l).start + p)

-- the column, from 1
abbrev pub column_of : ℕ → Option ℕ → Option ℕ → ℕ → List ℕ → ℕ
column_of r w t k l = place_of r w t k l + 1
