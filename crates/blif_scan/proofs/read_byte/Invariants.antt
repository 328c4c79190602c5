-- `blif_scan::read_byte` meets its contract. The loop's invariant: only backslashes right before LFs were passed, with those. Assumes nothing.
use Prim.Native.Nat.{◌-◌, ◌≤◌}
use mathlib.Core.Path.{◌≡◌}
use lib.ListN.{length}
use Rattle.blif_scan.specs.Scanning.{left}
use Rattle.blif_scan.proofs.read_byte.Given as goal

abbrev pub invariant-loop-p : goal.invariant-loop-p
invariant-loop-p l = (l.at ≤ l.p) × (left l.s l.at ≡ left l.s l.p)

abbrev pub decreases-loop-p : goal.decreases-loop-p
decreases-loop-p l = length l.s - l.p
