-- `blif_read::build::put_rows` meets its contract. The loop's invariant: whatever the rows are, the cubes of those passed stand in the words, and the
-- others are left. No row stands where the rows end, and there is room for all of them. Assumes nothing.
use Prim.Native.Nat.{ℕ, ◌+◌, ◌≤◌}
use mathlib.Core.Path.{◌≡◌}
use mathlib.Core.List.{List}
use lib.ListN.{length}
use Rattle.expression.specs.Words.{cubes_of}
use Rattle.blif_scan.specs.Scanning.{left}
use Rattle.blif_lines.specs.Lining.{RowsOf}
use Rattle.blif_read.specs.Building.{Columns}
use Rattle.blif_read.proofs.Putting.{RowsTo}
use Rattle.blif_read.proofs.build.put_rows.Given as goal

abbrev pub invariant-loop-i : goal.invariant-loop-i
invariant-loop-i l =
    (length l.words ≡ length l.initial.words)
    × ((ws : List (List ℕ)) (more : List ℕ) → Columns l.vars → RowsOf (left l.s l.from) (length l.vars) ws more → l.at + length ws ≤ length (cubes_of l.initial.words)
    → RowsTo l.s l.p l.vars l.initial.words l.words l.at l.i ws more)
