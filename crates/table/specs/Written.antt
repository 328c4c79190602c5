-- What is written in a text, line by line, whatever a reader makes of it.
use Rattle.std.specs.Prelude.{ℕ, Bool, true, false, cond, ◌&&◌, List, [], ◌∷◌, ◌++◌, get_or}
use Rattle.std.proofs.Math.Option.{Option, none, some}
use Rattle.sets.specs.{Lists.any, Masks.bit}
use Rattle.table_lines.specs.Text.{lines_of, content}
use Rattle.table_kinds.specs.{Kinds.kind_of, declared.Kind.Kind}
use Rattle.table_rows.specs.Lines.{CubeLine, cube_line_of, covers}
use Rattle.table_kinds.specs.declared.Kind.TheVariants.{Empty, Inputs, Outputs, Products, End, Other}

abbrev pub is_end : Kind → Bool
is_end Empty = false
is_end (Inputs n) = false
is_end (Outputs n) = false
is_end (Products n) = false
is_end End = true
is_end Other = false

-- the lines before `.e`
unfoldable pub before_end : List (List ℕ) → List (List ℕ)
before_end [] = []
before_end (l ∷ ls) = cond (is_end (kind_of (content l))) [] (l ∷ before_end ls)

abbrev pub lines_read : List ℕ → List (List ℕ)
lines_read t = before_end (lines_of t)

module _ {A : Type 0} where
  abbrev pub listed : Option A → List A
  listed none = []
  listed (some x) = x ∷ []

  -- what f finds in what is left of each line, in their order
  unfoldable pub found : (List ℕ → Option A) → List (List ℕ) → List A
  found f [] = []
  found f (l ∷ ls) = listed (f (content l)) ++ found f ls

-- the N of `.i N`, of `.o N`, of `.p N`
abbrev pub inputs_number : Kind → Option ℕ
inputs_number Empty = none
inputs_number (Inputs n) = some n
inputs_number (Outputs n) = none
inputs_number (Products n) = none
inputs_number End = none
inputs_number Other = none

abbrev pub outputs_number : Kind → Option ℕ
outputs_number Empty = none
outputs_number (Inputs n) = none
outputs_number (Outputs n) = some n
outputs_number (Products n) = none
outputs_number End = none
outputs_number Other = none

abbrev pub products_number : Kind → Option ℕ
products_number Empty = none
products_number (Inputs n) = none
products_number (Outputs n) = none
products_number (Products n) = some n
products_number End = none
products_number Other = none

-- those of a text
abbrev pub inputs_in : List ℕ → List ℕ
inputs_in t = found (λ c. inputs_number (kind_of c)) (lines_read t)

abbrev pub outputs_in : List ℕ → List ℕ
outputs_in t = found (λ c. outputs_number (kind_of c)) (lines_read t)

abbrev pub products_in : List ℕ → List ℕ
products_in t = found (λ c. products_number (kind_of c)) (lines_read t)

-- how many inputs and outputs: the first N of `.i` and the first of `.o`
abbrev pub inputs_of : List ℕ → ℕ
inputs_of t = get_or (inputs_in t) 0 0

abbrev pub outputs_of : List ℕ → ℕ
outputs_of t = get_or (outputs_in t) 0 0

-- the cube lines of a text
abbrev pub cube_lines_of : List ℕ → List CubeLine
cube_lines_of t = found (cube_line_of (inputs_of t) (outputs_of t)) (lines_read t)

-- some of these lines has a `1` for output j and covers the setting x
abbrev pub some_covers : List CubeLine → ℕ → ℕ → Bool
some_covers lines x j = any (λ (l : CubeLine). get_or l.marks j false && covers (bit x) 0 l.places) lines
