-- `table::collect` meets its contract. The loop's invariant: the cubes picked from the places passed stand from place `at` on. Assumes nothing.
use mathlib.Core.Path.{◌≡◌}
use lib.ListN.{length}
use Rattle.expression.{specs.Words.Appends}
use Rattle.table.specs.Parts.{pick}
use Rattle.table.proofs.collect.Given as goal

abbrev pub invariant-loop-i : goal.invariant-loop-i
invariant-loop-i l = Appends l.initial.out l.out l.at (pick l.j l.words l.marks l.i) l.to × (length l.out ≡ length l.initial.out)
