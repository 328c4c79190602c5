-- `blif_lines::read_names` meets its contract. The loop's invariant: the names passed are those that stand from `at` on, ascending, each ended by
-- a space and marked; the next one ends the line, goes on, or shows that there is none. Assumes nothing.
use Prim.Native.Nat.{◌-◌}
use lib.ListN.{length}
use Rattle.blif_lines.proofs.Lining.{Passing}
use Rattle.blif_lines.proofs.read_names.Given as goal

abbrev pub invariant-loop-v : goal.invariant-loop-v
invariant-loop-v l = Passing l.s l.at l.p l.least l.reads l.base l.initial.marks l.marks

abbrev pub decreases-loop-v : goal.decreases-loop-v
decreases-loop-v l = length l.s - l.p
