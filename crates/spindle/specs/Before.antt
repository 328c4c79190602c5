-- What the lines before a line of a table have told.
use Rattle.std.specs.Prelude.{◌≡◌, ℕ, ◌+◌, ◌-◌, ◌≤◌, List, [], ◌∷◌, length, take, drop, slice_index_or, Some, None}
use Rattle.table_lines.specs.Text.{line_of, lines_of, content}
use Rattle.table_kinds.specs.{Kinds.kind_of, declared.Kind.Kind}
use Rattle.table_kinds.specs.declared.Kind.TheVariants.{Empty, Inputs, Outputs, Products, End, Other}
use Rattle.spindle.specs.declared.before.{Seen.Seen, Reached.Reached}

-- the most lines that a number counts
abbrev pub most_lines : ℕ
most_lines = 4294967295

abbrev pub unseen : Seen
unseen = record { inputs = None; outputs = None; stated = None; cubes = 0 }

-- a line of a kind more
unfoldable pub by_kind : Seen → Kind → Seen
by_kind s Empty = s
by_kind s (Inputs n) = record { inputs = Some n; outputs = s.outputs; stated = s.stated; cubes = s.cubes }
by_kind s (Outputs n) = record { inputs = s.inputs; outputs = Some n; stated = s.stated; cubes = s.cubes }
by_kind s (Products n) = record { inputs = s.inputs; outputs = s.outputs; stated = Some n; cubes = s.cubes }
by_kind s End = s
by_kind s Other = record { inputs = s.inputs; outputs = s.outputs; stated = s.stated; cubes = s.cubes + 1 }

-- a line more
abbrev pub after : Seen → List ℕ → Seen
after s l = by_kind s (kind_of (content l))

-- lines more
unfoldable pub seen_in : Seen → List (List ℕ) → Seen
seen_in s [] = s
seen_in s (l ∷ ls) = seen_in (after s l) ls

-- line number k of the text t, from 1, begins there, and the lines before have told so much; one after the last is empty
pub record Reaches (t : List ℕ) (k : ℕ) (r : Reached) : Type 0 where
  pub inside : r.at ≤ length t
  pub line : line_of (drop r.at t) ≡ slice_index_or (lines_of t) (k - 1) []
  pub told : r.seen ≡ seen_in unseen (take (k - 1) (lines_of t))
