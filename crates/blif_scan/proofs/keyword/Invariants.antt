-- `blif_scan::keyword` meets its contract. The loop's invariant: the bytes of the word so far stand here, and then what is left. Assumes nothing.
use Prim.Native.Nat.{◌≤◌}
use mathlib.Core.Path.{◌≡◌}
use mathlib.Core.List.{◌++◌}
use lib.ListN.{take}
use Rattle.blif_scan.specs.Scanning.{left}
use Rattle.blif_scan.proofs.keyword.Given as goal

abbrev pub invariant-loop-c : goal.invariant-loop-c
invariant-loop-c l = (l.at ≤ l.p) × (left l.s l.at ≡ take l.c-index l.w ++ left l.s l.p)
