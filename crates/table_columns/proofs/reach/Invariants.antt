-- `table_columns::reach` meets its contract. The loop's invariant: the parts that follow go on at the place that was reached. Assumes nothing.
use Rattle.std.proofs.Common.{◌≡◌, ◌≤◌, ◌+◌, length, map, drop}
use Rattle.table_columns.specs.{Forms.reach, Parts.part_of}
use Rattle.table_columns.proofs.reach.Given as goal

abbrev pub invariant-loop-p : goal.invariant-loop-p
invariant-loop-p l = (l.at ≤ length l.c) × (l.at + reach (drop l.p-index (map part_of l.parts)) (drop l.at l.c) ≡ reach (map part_of l.parts) l.c)
