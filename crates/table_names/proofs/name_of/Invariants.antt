-- `table_names::name_of` meets its contract. The loop's invariant: the name is that of the lines that follow. Assumes nothing.
use Rattle.std.proofs.Common.{◌≡◌, length, drop}
use Rattle.table_lines.specs.Text.{lines_of}
use Rattle.table_names.specs.Names.{first_name, name_of}
use Rattle.table_names.proofs.name_of.Given as goal

abbrev pub invariant-loop-line : goal.invariant-loop-line
invariant-loop-line l = name_of l.i l.table ≡ first_name l.i (drop (length l.yielded) (lines_of l.table))
