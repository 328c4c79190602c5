-- `table_columns::one_place` meets its contract. The loop's invariant: the place sought is the same from i on. Assumes nothing.
use Rattle.std.proofs.Common.{◌≡◌, ◌+◌, drop}
use Rattle.table_columns.specs.Columns.{one_place}
use Rattle.table_columns.proofs.one_place.Given as goal

abbrev pub invariant-loop-i : goal.invariant-loop-i
invariant-loop-i l = l.i + one_place l.left (drop l.i l.o) ≡ one_place l.k l.o
