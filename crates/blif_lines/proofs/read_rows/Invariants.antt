-- `blif_lines::read_rows` meets its contract. The loop's invariant: the rows passed stand from `at` on, and their signs are marked. Assumes nothing.
use Prim.Native.Nat.{◌-◌}
use lib.ListN.{length}
use Rattle.blif_lines.proofs.Rowing.{Rowing}
use Rattle.blif_lines.proofs.read_rows.Given as goal

abbrev pub invariant-loop-marks : goal.invariant-loop-marks
invariant-loop-marks l = Rowing l.s l.at l.r l.p l.count l.base l.initial.marks l.marks

abbrev pub decreases-loop-marks : goal.decreases-loop-marks
decreases-loop-marks l = length l.s - l.p
