-- `blif_scan::read_number` meets its contract. The loop's invariant: the digits of n stand here, the first of them no `0`, and then what is left.
-- Assumes nothing.
use Prim.Native.Nat.{◌-◌, ◌<◌, ◌≤◌}
use mathlib.Core.Path.{◌≡◌}
use mathlib.Core.List.{◌++◌}
use lib.ListN.{length}
use Rattle.sets.specs.Word.{largest}
use Rattle.letters.{specs.Letters.decimal}
use Rattle.blif_scan.specs.Scanning.{left}
use Rattle.blif_scan.proofs.read_number.Given as goal

abbrev pub invariant-loop-d : goal.invariant-loop-d
invariant-loop-d l = (1 ≤ l.n) × (l.n ≤ largest) × (l.at < l.p) × (left l.s l.at ≡ decimal l.n ++ left l.s l.p)

abbrev pub decreases-loop-d : goal.decreases-loop-d
decreases-loop-d l = length l.s - l.p
