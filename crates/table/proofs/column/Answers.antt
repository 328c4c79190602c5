-- `table::column` meets its contract. Assumes nothing.
use Prim.Native.Nat.{◌≤◌}
use native.Mathlib.Omega.{arith}
use lib.ListN.{length}
use Rattle.table_columns.proofs.Faults.{place-bound}
use Rattle.table.proofs.column.Goals as goal
use Rattle.table.proofs.column.Goals.{After-place_of}

-- the place is within the line, or just past it
inside : (c : After-place_of) → c.place_of.result ≤ length c.args.l.now
inside c = rw c.place_of.ensures (place-bound _ _ _ _ _)

pub overflow_add-result : goal.overflow_add-result
overflow_add-result c = record { fits = omega (arith, inside c) }
