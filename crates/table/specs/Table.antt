-- The table that a text holds, or why it is refused; its network.
use Rattle.std.specs.Prelude.{ℕ, suc, ◌+◌, ◌-◌, Bool, true, false, cond, ◌&&◌, List, [], ◌∷◌, ◌++◌, map, leb, ltb, eqb, length, get_or}
use Rattle.std.proofs.Math.Option.{Option, none, some}
use Rattle.sets.specs.Lists.{keep, total, is_nil, from}
use Rattle.expression.specs.Expression.{sort, absorbed}
use Rattle.network.specs.Net.{Net}
use Rattle.network.specs.Held.{most_inputs, most_outputs, up_to}
use Rattle.table_lines.specs.Text.{lines_of, content}
use Rattle.table_kinds.specs.{Kinds.kind_of, declared.Kind.Kind}
use Rattle.table_rows.specs.Lines.{CubeLine, cube_line_of, rows_in, cube_of}
use Rattle.table_columns.specs.Columns.{or_zero, column_of}
use Rattle.table.specs.declared.Refusal.{Refusal}
use Rattle.table_kinds.specs.declared.Kind.TheVariants.{Empty, Inputs, Outputs, Products, End, Other}

abbrev pub most_bytes : ℕ
most_bytes = 65536

abbrev pub most_products : ℕ
most_products = 32768

abbrev pub most_rows : ℕ
most_rows = 1024

-- what has been read
pub record State : Type 0 where
  pub wide : Option ℕ
  pub tall : Option ℕ
  pub stated : Option ℕ
  pub lines : List CubeLine

abbrev pub start : State
start = record { wide = none; tall = none; stated = none; lines = [] }

abbrev pub missing : Option ℕ → Bool
missing none = true
missing (some n) = false

-- not yet there, and no cube line before it
abbrev pub in_time : Option ℕ → List CubeLine → Bool
in_time o l = missing o && is_nil l

-- a line goes on, ends the table, or is refused by a number
pub data Turn : Type 0 where
  next : State → Turn
  done : State → Turn
  refuse : ℕ → Turn

-- what has been read, with a number or a cube line more
abbrev pub with_wide : State → ℕ → State
with_wide s n = record { wide = some n; tall = s.tall; stated = s.stated; lines = s.lines }

abbrev pub with_tall : State → ℕ → State
with_tall s n = record { wide = s.wide; tall = some n; stated = s.stated; lines = s.lines }

abbrev pub with_stated : State → ℕ → State
with_stated s n = record { wide = s.wide; tall = s.tall; stated = some n; lines = s.lines }

abbrev pub with_line : State → CubeLine → State
with_line s l = record { wide = s.wide; tall = s.tall; stated = s.stated; lines = s.lines ++ (l ∷ []) }

-- a number's line: 2 where it is repeated or too late, 3 where the number is out of range
abbrev pub number_line : Bool → Bool → State → Turn
number_line timely fits s = cond timely (cond fits (next s) (refuse 3)) (refuse 2)

-- `.i N`, `.o N`, `.p N`
unfoldable pub set_wide : ℕ → State → Turn
set_wide n s = number_line (in_time s.wide s.lines) (up_to most_inputs n) (with_wide s n)

unfoldable pub set_tall : ℕ → State → Turn
set_tall n s = number_line (in_time s.tall s.lines) (up_to most_outputs n) (with_tall s n)

unfoldable pub set_stated : ℕ → State → Turn
set_stated n s = number_line (in_time s.stated s.lines) (leb n most_products) (with_stated s n)

-- `.p` is the number of cube lines read, where it is there
abbrev pub right_count : Option ℕ → List CubeLine → Bool
right_count none l = true
right_count (some p) l = eqb p (length l)

-- `.e`: 2 while `.i` or `.o` is missing, 4 where `.p` differs
unfoldable pub finish : State → Turn
finish s =
    cond (missing s.wide) (refuse 2) (cond (missing s.tall) (refuse 2) (cond (right_count s.stated s.lines) (done s) (refuse 4)))

-- a cube line more: 6 where its rows pass 1,024, before any is dropped
abbrev pub add_line : Option CubeLine → State → Turn
add_line none s = refuse 2
add_line (some l) s = cond (leb (total rows_in s.lines + rows_in l) most_rows) (next (with_line s l)) (refuse 6)

-- a cube line: 2 while `.i` or `.o` is missing, or where it is none
abbrev pub cube_line : Option ℕ → Option ℕ → List ℕ → State → Turn
cube_line none m c s = refuse 2
cube_line (some n) none c s = refuse 2
cube_line (some n) (some m) c s = add_line (cube_line_of n m c) s

abbrev pub by_kind : Kind → List ℕ → State → Turn
by_kind Empty c s = next s
by_kind (Inputs n) c s = set_wide n s
by_kind (Outputs n) c s = set_tall n s
by_kind (Products n) c s = set_stated n s
by_kind End c s = finish s
by_kind Other c s = cube_line s.wide s.tall c s

-- one line read
unfoldable pub read_line : List ℕ → State → Turn
read_line l s = by_kind (kind_of (content l)) (content l) s

-- the table, or its refusal
pub data Outcome : Type 0 where
  accepted : State → Outcome
  refused : Refusal → Outcome

-- by number r, at line k, column c
abbrev pub refused_at : ℕ → ℕ → ℕ → Outcome
refused_at r k c = refused (record { number = r; line = k; column = c })

-- the column of the refusal of a line by number r
abbrev pub column_at : State → List ℕ → ℕ → ℕ
column_at s l r = column_of r s.wide s.tall (most_rows - total rows_in s.lines) l

-- lines in turn, k being the number of the first
unfoldable pub read_lines : ℕ → List (List ℕ) → State → Outcome
read_lines k [] s = refused_at 5 0 0
read_lines k (l ∷ ls) s =
    elim (read_line l s) [ next t ↦ read_lines (suc k) ls t | done t ↦ accepted t | refuse r ↦ refused_at r k (column_at s l r) ]

-- 1 is tested first
unfoldable pub read_text : List ℕ → Outcome
read_text t = cond (ltb most_bytes (length t)) (refused_at 1 0 0) (read_lines 1 (lines_of t) start)

-- ---- the network of a table

-- the cubes of output j, row by row
abbrev pub cubes_for : ℕ → List CubeLine → List (List ℕ)
cubes_for j lines = map cube_of (keep (λ (l : CubeLine). get_or l.marks j false) lines)

-- an output's expression: cubes dropped, the rest in cube order
abbrev pub output_for : List CubeLine → ℕ → List (List ℕ)
output_for lines j = sort (absorbed (cubes_for j lines))

unfoldable pub table_net : State → Net
table_net s = record { inputs = or_zero s.wide; outputs = map (output_for s.lines) (from 0 (or_zero s.tall)); divisors = [] }
