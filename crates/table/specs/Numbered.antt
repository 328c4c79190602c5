-- The number and the line of a refusal, with no word on its column, as the base paper has them.
use Rattle.std.specs.Prelude.{ℕ, suc, cond, List, [], ◌∷◌, ltb, length}
use Rattle.table_lines.specs.Text.{lines_of}
use Rattle.table.specs.Table.{State, start, next, done, refuse, read_line, Outcome, accepted, refused, most_bytes}

-- the table, or the number and the line of its refusal
pub data Numbered : Type 0 where
  taken : State → Numbered
  turned : ℕ → ℕ → Numbered

-- lines in turn, k being the number of the first
unfoldable pub number_lines : ℕ → List (List ℕ) → State → Numbered
number_lines k [] s = turned 5 0
number_lines k (l ∷ ls) s =
    elim (read_line l s) [ next t ↦ number_lines (suc k) ls t | done t ↦ taken t | refuse r ↦ turned r k ]

-- 1 is tested first
unfoldable pub number_text : List ℕ → Numbered
number_text t = cond (ltb most_bytes (length t)) (turned 1 0) (number_lines 1 (lines_of t) start)

-- an outcome without its column
abbrev pub columnless : Outcome → Numbered
columnless (accepted s) = taken s
columnless (refused q) = turned q.number q.line
