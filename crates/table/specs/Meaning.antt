-- What holds of a table as its lines are read, and of one that is accepted.
use Rattle.std.specs.Prelude.{ℕ, ◌+◌, ◌-◌, ◌<◌, ◌≤◌, Bool, true, false, not, length}
use mathlib.Core.{Path.◌≡◌, Logic.◌⊎◌}
use mathlib.Core.List.{List, [], ◌∷◌, ◌++◌, Memᴰ}
use Rattle.std.proofs.Math.Option.{Option, none, some}
use Rattle.sets.specs.{Lists.total, Lists.is_nil, Sets.mem}
use Rattle.network.specs.Held.{most_inputs, most_outputs, up_to}
use Rattle.letters.specs.Meaning.{is_digit}
use Rattle.table_lines.specs.Text.{is_blank, lines_of, content}
use Rattle.table_kinds.specs.Kinds.{kind_of}
use Rattle.table_rows.specs.Lines.{CubeLine, cube_line_of, rows_in}
use Rattle.table_rows.specs.Meaning.{LineOf}
use Rattle.table_columns.specs.{Columns.or_zero, Meaning.Fault, Meaning.FirstOf, Meaning.RowMore}
use Rattle.table_kinds.specs.declared.Kind.TheVariants.{Empty, Inputs, Outputs, Products, End, Other}
use Rattle.table.specs.Written.{listed, inputs_in, outputs_in, products_in, inputs_of, outputs_of, cube_lines_of}
use Rattle.table.specs.Table.{State, Turn, next, done, refuse, missing, right_count, Outcome, accepted, refused_at}
use Rattle.table.specs.Table.{start, most_bytes, most_products, most_rows}
use Rattle.table.specs.Numbered.{Numbered, taken, turned}

-- from 1 to the most, where it is there
abbrev pub within : ℕ → Option ℕ → Bool
within most none = true
within most (some n) = up_to most n

-- what holds after each line
pub record Bounded (s : State) : Type 0 where
  pub wide : within most_inputs s.wide ≡ true
  pub tall : within most_outputs s.tall ≡ true
  pub rows : total rows_in s.lines ≤ most_rows
  pub shaped : (l : CubeLine) → Memᴰ l s.lines → LineOf (or_zero s.wide) (or_zero s.tall) l

-- a table that is accepted: n inputs, m outputs, at most 1,024 rows, every cube line of n places and m marks, and `.p`, if it is there,
-- says how many
pub record Complete (s : State) (n m : ℕ) : Type 0 where
  pub wide : s.wide ≡ some n
  pub inputs : (1 ≤ n) × (n ≤ most_inputs)
  pub tall : s.tall ≡ some m
  pub outputs : (1 ≤ m) × (m ≤ most_outputs)
  pub stated : right_count s.stated s.lines ≡ true
  pub rows : total rows_in s.lines ≤ most_rows
  pub shaped : (l : CubeLine) → Memᴰ l s.lines → LineOf n m l

-- ---- when a line goes on, ends the table or is refused

-- not yet there, and no cube line before it
pub record Timely (o : Option ℕ) (l : List CubeLine) : Type 0 where
  pub new : o ≡ none
  pub first : l ≡ []

-- what has been read after a line that goes on, c being what is left of it
pub data Goes (s : State) (c : List ℕ) : State → Type 0 where
  -- an empty line changes nothing
  blank : kind_of c ≡ Empty → Goes s c s
  -- `.i N`, `.o N`, `.p N`, in time and in range: its number is known, all else is kept
  inputs : (n : ℕ) → kind_of c ≡ Inputs n → Timely s.wide s.lines → 1 ≤ n → n ≤ most_inputs
      → Goes s c (record { wide = some n; tall = s.tall; stated = s.stated; lines = s.lines })
  outputs : (n : ℕ) → kind_of c ≡ Outputs n → Timely s.tall s.lines → 1 ≤ n → n ≤ most_outputs
      → Goes s c (record { wide = s.wide; tall = some n; stated = s.stated; lines = s.lines })
  products : (n : ℕ) → kind_of c ≡ Products n → Timely s.stated s.lines → n ≤ most_products
      → Goes s c (record { wide = s.wide; tall = s.tall; stated = some n; lines = s.lines })
  -- a cube line, where `.i` and `.o` are known: the cube lines are the old ones and this one, of at most 1,024 rows, all else is kept
  cube : (n m : ℕ) (l : CubeLine) → kind_of c ≡ Other → s.wide ≡ some n → s.tall ≡ some m → cube_line_of n m c ≡ some l
      → total rows_in s.lines + rows_in l ≤ most_rows
      → Goes s c (record { wide = s.wide; tall = s.tall; stated = s.stated; lines = s.lines ++ (l ∷ []) })

-- repeated, or after a cube line
abbrev pub Late : Option ℕ → List CubeLine → Type 0
Late o l = (missing o ≡ false) ⊎ (is_nil l ≡ false)

-- while `.i` or `.o` is missing
abbrev pub Early : State → Type 0
Early s = (missing s.wide ≡ true) ⊎ (missing s.tall ≡ true)

-- c is `.e`, nothing is missing, and `.p` says how many cube lines were read, if it is there
pub record Closes (s : State) (c : List ℕ) : Type 0 where
  pub kind : kind_of c ≡ End
  pub wide : missing s.wide ≡ false
  pub tall : missing s.tall ≡ false
  pub stated : right_count s.stated s.lines ≡ true

-- the numbers of the refusals of what is left of a line
pub data Refuses (s : State) (c : List ℕ) : ℕ → Type 0 where
  -- 2: of no kind, repeated, too early or too late; `.e` while `.i` or `.o` is missing
  late_inputs : (n : ℕ) → kind_of c ≡ Inputs n → Late s.wide s.lines → Refuses s c 2
  late_outputs : (n : ℕ) → kind_of c ≡ Outputs n → Late s.tall s.lines → Refuses s c 2
  late_products : (n : ℕ) → kind_of c ≡ Products n → Late s.stated s.lines → Refuses s c 2
  early_end : kind_of c ≡ End → Early s → Refuses s c 2
  early_cube : kind_of c ≡ Other → Early s → Refuses s c 2
  no_kind : (n m : ℕ) → kind_of c ≡ Other → s.wide ≡ some n → s.tall ≡ some m → cube_line_of n m c ≡ none → Refuses s c 2
  -- 3: the number of `.i` or `.o` not 1 to 32, or of `.p` over 32,768
  out_inputs : (n : ℕ) → kind_of c ≡ Inputs n → Timely s.wide s.lines → (n ≡ 0) ⊎ (most_inputs < n) → Refuses s c 3
  out_outputs : (n : ℕ) → kind_of c ≡ Outputs n → Timely s.tall s.lines → (n ≡ 0) ⊎ (most_outputs < n) → Refuses s c 3
  out_products : (n : ℕ) → kind_of c ≡ Products n → Timely s.stated s.lines → most_products < n → Refuses s c 3
  -- 4: `.p` differs from the cube lines read
  differs : (p : ℕ) → kind_of c ≡ End → missing s.wide ≡ false → missing s.tall ≡ false
      → s.stated ≡ some p → (p ≡ length s.lines → ⊥) → Refuses s c 4
  -- 6: rows pass 1,024, before any is dropped
  over : (n m : ℕ) (l : CubeLine) → kind_of c ≡ Other → s.wide ≡ some n → s.tall ≡ some m → cube_line_of n m c ≡ some l
      → most_rows < total rows_in s.lines + rows_in l → Refuses s c 6

-- the numbers of refusals that a line can have
abbrev pub is_line : ℕ → Bool
is_line k = mem k (2 ∷ 3 ∷ 4 ∷ 6 ∷ [])

-- the column of the refusal of the line l by a number; that it is refused so is for `Refuses` to say
pub data Points (s : State) (l : List ℕ) : ℕ → ℕ → Type 0 where
  -- 2, not spelled as a kind: the first byte that no good line could hold there, or one past a line that merely ends too soon
  fault : {c : ℕ} → kind_of (content l) ≡ Other → Fault s.wide s.tall l c → Points s l 2 c
  -- 2, of a kind, and repeated or misplaced: its first byte that isn't blank
  misplaced : (p : ℕ) → (kind_of (content l) ≡ Other → ⊥) → FirstOf (λ b. not (is_blank b)) l p → Points s l 2 (p + 1)
  -- 3: the first byte of the number
  digit : (p : ℕ) → FirstOf is_digit l p → Points s l 3 (p + 1)
  -- 4: the first byte of `.e`
  point : (p : ℕ) → FirstOf (λ b. not (is_blank b)) l p → Points s l 4 (p + 1)
  -- 6: the output character that made one row too many
  row : (n m p : ℕ) → s.wide ≡ some n → s.tall ≡ some m → RowMore n m (most_rows - total rows_in s.lines) l p → Points s l 6 (p + 1)

-- what a line does
pub data Does (s : State) (c : List ℕ) : Turn → Type 0 where
  going : {t : State} → Goes s c t → Does s c (next t)
  closing : Closes s c → Does s c (done s)
  refusing : {r : ℕ} → Refuses s c r → Does s c (refuse r)

-- lines read in turn from s to t, none of which is the last or refused
pub data Reads : State → List (List ℕ) → State → Type 0 where
  nothing : {s : State} → Reads s [] s
  line : {s t u : State} {l : List ℕ} {ls : List (List ℕ)} → Goes s (content l) t → Reads t ls u → Reads s (l ∷ ls) u

-- ---- the outcome of lines from number k on: accepted at the line that ends the table, refused at a line and a column, or by 5 where none is left

pub data Ended (k : ℕ) (s : State) : List (List ℕ) → Outcome → Type 0 where
  whole : (ls : List (List ℕ)) (l : List ℕ) (rest : List (List ℕ)) {t : State}
      → Reads s ls t → Closes t (content l) → Ended k s (ls ++ (l ∷ rest)) (accepted t)
  stopped : (ls : List (List ℕ)) (l : List ℕ) (rest : List (List ℕ)) {t : State} {r c : ℕ}
      → Reads s ls t → Refuses t (content l) r → Points t l r c → Ended k s (ls ++ (l ∷ rest)) (refused_at r (k + length ls) c)
  short : (ls : List (List ℕ)) {t : State} → Reads s ls t → Ended k s ls (refused_at 5 0 0)

-- the outcome of a text: 1 is tested first, then lines in turn
abbrev pub Comes : List ℕ → Outcome → Type 0
Comes t o = ((most_bytes < length t) × (o ≡ refused_at 1 0 0)) ⊎ ((length t ≤ most_bytes) × Ended 1 start (lines_of t) o)

-- ---- the same with no word on columns: the numbers and lines of the base paper

pub data Halts (k : ℕ) (s : State) : List (List ℕ) → Numbered → Type 0 where
  at_end : (ls : List (List ℕ)) (l : List ℕ) (rest : List (List ℕ)) {t : State}
      → Reads s ls t → Closes t (content l) → Halts k s (ls ++ (l ∷ rest)) (taken t)
  at_line : (ls : List (List ℕ)) (l : List ℕ) (rest : List (List ℕ)) {t : State} {r : ℕ}
      → Reads s ls t → Refuses t (content l) r → Halts k s (ls ++ (l ∷ rest)) (turned r (k + length ls))
  nowhere : (ls : List (List ℕ)) {t : State} → Reads s ls t → Halts k s ls (turned 5 0)

abbrev pub Gives : List ℕ → Numbered → Type 0
Gives t o = ((most_bytes < length t) × (o ≡ turned 1 0)) ⊎ ((length t ≤ most_bytes) × Halts 1 start (lines_of t) o)

-- ---- what was read is what is written: `.i` and `.o` once each, `.p` at most once, and the cube lines in their order

pub record Says (t : List ℕ) (s : State) : Type 0 where
  pub inputs : inputs_in t ≡ inputs_of t ∷ []
  pub wide : s.wide ≡ some (inputs_of t)
  pub outputs : outputs_in t ≡ outputs_of t ∷ []
  pub tall : s.tall ≡ some (outputs_of t)
  pub products : products_in t ≡ listed s.stated
  pub lines : s.lines ≡ cube_lines_of t
