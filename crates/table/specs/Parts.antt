-- What the private parts of reading and building hold and leave.
use Rattle.std.specs.Prelude.{ℕ, ◌+◌, ◌-◌, ◌<◌, ◌≤◌, ltb, List, [], ◌∷◌, map, length, take, drop, replicate, Some, None, unwrap_or}
use Rattle.std.specs.Prelude as std
use Rattle.std.proofs.Math.Option.{Option, none, some}
use mathlib.Core.{Path.◌≡◌, Bool.Bool, Bool.cond}
use Rattle.sets.specs.Lists.{keep, total, from}
use Rattle.sets.specs.Masks.{bit, packed}
use Rattle.expression.specs.{Words.cubes_of, Expression.sort, Expression.absorbed}
use Rattle.network.specs.{Net.Net, Held.most_outputs}
use Rattle.table_kinds.specs.Kinds.{kind_of}
use Rattle.table_rows.specs.Lines.{CubeLine, rows_in, cube_of}
use Rattle.table_columns.specs.Columns.{unless_zero, column_of}
use Rattle.table.specs.Table as table
use Rattle.table.specs.{Table.most_bytes, Table.most_rows, Meaning.Bounded, declared.Scanned.Scanned}
use Rattle.table.specs.declared.Answer.TheVariants as Answer
use Rattle.table.specs.declared.{State.State, Turn.Turn}
use Rattle.table.specs.declared.Turn.TheVariants.{Next, Done, Refused}

-- ---- reading

-- a number, where it is there
abbrev pub held : std.Option ℕ → Option ℕ
held None = none
held (Some n) = some n

-- the cube lines that make a row
abbrev pub marked : List CubeLine → List CubeLine
marked l = keep (λ (c : CubeLine). ltb 0 (rows_in c)) l

-- what has been read, as numbers, and the cubes and masks of the lines that make a row
pub record Stands (t : table.State) (s : State) (words marks : List ℕ) : Type 0 where
  pub wide : held s.inputs ≡ t.wide
  pub tall : held s.outputs ≡ t.tall
  pub stated : held s.stated ≡ t.stated
  pub lines : s.lines ≡ length t.lines
  pub rows : s.rows ≡ total rows_in t.lines
  pub kept : s.kept ≡ length (marked t.lines)
  pub cubes : take s.kept (cubes_of words) ≡ map cube_of (marked t.lines)
  pub masks : take s.kept marks ≡ map (λ (c : CubeLine). packed c.marks) (marked t.lines)

-- a line goes on, ends the table or is refused
abbrev pub LineTurned : table.Turn → Turn → List ℕ → List ℕ → Type 0
LineTurned (table.next t) (Next s) words marks = Stands t s words marks
LineTurned (table.next t) (Done s) words marks = ⊥
LineTurned (table.next t) (Refused k) words marks = ⊥
LineTurned (table.done t) (Next s) words marks = ⊥
LineTurned (table.done t) (Done s) words marks = Stands t s words marks
LineTurned (table.done t) (Refused k) words marks = ⊥
LineTurned (table.refuse r) (Next s) words marks = ⊥
LineTurned (table.refuse r) (Done s) words marks = ⊥
LineTurned (table.refuse r) (Refused k) words marks = k ≡ r

-- of whatever was read and now stands so, the answer is what the line does to it, and the words and marks stay
abbrev pub Answers : (table.State → table.Turn) → State → Turn → Type 0
Answers f s r = (t : table.State) (words marks : List ℕ) → Bounded t → Stands t s words marks → LineTurned (f t) r words marks

-- of a number that is held where it is there: the answer is what its line does, s being what stands with the number
abbrev pub Numbers : std.Option ℕ → Bool → State → Turn → Type 0
Numbers o fits s r = (t : table.State) (words marks : List ℕ) → Stands t s words marks
    → LineTurned (table.number_line (table.in_time (held o) t.lines) fits t) r words marks

-- there are 1,024 places for cubes and for masks, and the numbers leave room in them
pub record Roomy (s : State) (words marks : List ℕ) : Type 0 where
  pub kept : s.kept ≤ s.rows
  pub rows : s.rows ≤ most_rows
  pub lines : s.lines ≤ most_bytes
  pub places : length (cubes_of words) ≡ most_rows
  pub masks : length marks ≡ most_rows

-- the same where the words and marks may have changed
abbrev pub Leaves : (table.State → table.Turn) → State → Turn → List ℕ → List ℕ → List ℕ → List ℕ → Type 0
Leaves f s r words marks words' marks' = (t : table.State) → Bounded t → Stands t s words marks → LineTurned (f t) r words' marks'

-- what a line does by its kind, c being left of it, and what a cube line does
abbrev pub by_line : List ℕ → table.State → table.Turn
by_line c t = table.by_kind (kind_of c) c t

abbrev pub by_cube : List ℕ → table.State → table.Turn
by_cube c t = table.cube_line t.wide t.tall c t

-- of a cube line with this cube, mask and number of rows the answer stands for one more
abbrev pub Keeps : State → List ℕ → ℕ → ℕ → State → List ℕ → List ℕ → List ℕ → List ℕ → Type 0
Keeps s cube mask rows r words marks words' marks' =
    (t : table.State) (l : CubeLine) → Stands t s words marks → cube ≡ cube_of l → mask ≡ packed l.marks → rows ≡ rows_in l
    → Stands (table.with_line t l) r words' marks'

-- a text that is not too long, and places for its cubes and masks
pub record Ready (text words marks : List ℕ) : Type 0 where
  pub short : length text ≤ most_bytes
  pub places : length (cubes_of words) ≡ most_rows
  pub masks : length marks ≡ most_rows

-- the column of the refusal of line l by number k
abbrev pub column_by : State → List ℕ → ℕ → ℕ
column_by s l k = column_of k (unless_zero (unwrap_or s.inputs 0)) (unless_zero (unwrap_or s.outputs 0)) (most_rows - s.rows) l

-- the answer to line l, which is the last to be read: what was read, or the refusal
abbrev pub stopped_at : Turn → List ℕ → ℕ → State → Scanned
stopped_at (Next t) l line s = record { answer = Answer.Read; state = t }
stopped_at (Done t) l line s = record { answer = Answer.Read; state = t }
stopped_at (Refused k) l line s = record { answer = Answer.Refused (record { number = k; line = line; column = column_by s l k }); state = s }

-- the outcome of the lines: what was read, or the refusal
abbrev pub Scans : table.Outcome → Scanned → List ℕ → List ℕ → Type 0
Scans (table.accepted t) r words marks = (r.answer ≡ Answer.Read) × Stands t r.state words marks
Scans (table.refused q) r words marks = r.answer ≡ Answer.Refused q

-- ---- building

-- the cubes whose mask has bit j
unfoldable pub picked : ℕ → List (List ℕ) → List ℕ → List (List ℕ)
picked j [] ms = []
picked j (c ∷ f) [] = []
picked j (c ∷ f) (m ∷ ms) = cond (bit m j) (c ∷ picked j f ms) (picked j f ms)

-- the first so many cubes and masks, of which those of output j
abbrev pub pick : ℕ → List ℕ → List ℕ → ℕ → List (List ℕ)
pick j words marks kept = picked j (take kept (cubes_of words)) (take kept marks)

-- there are so many cubes and masks
pub record Stock (words marks : List ℕ) (kept : ℕ) : Type 0 where
  pub cubes : kept ≤ length (cubes_of words)
  pub masks : kept ≤ length marks

-- there is room for the cubes of output j from place a on, where all cubes are empty
pub record Room (words marks : List ℕ) (kept j a : ℕ) (out : List ℕ) : Type 0 where
  pub source : Stock words marks kept
  pub mark : j < most_outputs
  pub fits : a + length (pick j words marks kept) ≤ length (cubes_of out)
  pub empty : drop a (cubes_of out) ≡ replicate (length (cubes_of out) - a) []

-- an output's expression of the cubes picked
abbrev pub formed : List ℕ → List ℕ → ℕ → ℕ → List (List ℕ)
formed words marks kept j = sort (absorbed (pick j words marks kept))

-- there are cubes and masks, few enough outputs, and few enough cubes for them all
pub record Buildable (words marks : List ℕ) (kept m : ℕ) : Type 0 where
  pub source : Stock words marks kept
  pub outputs : m ≤ most_outputs
  pub few : total (λ j. length (pick j words marks kept)) (from 0 m) ≤ most_rows

-- the network of n inputs and m outputs of the cubes and masks
abbrev pub net_from : ℕ → ℕ → List ℕ → List ℕ → ℕ → Net
net_from n m words marks kept = record { inputs = n; outputs = map (formed words marks kept) (from 0 m); divisors = [] }
