-- `blif_scan::word` meets its contract. The loop's invariant: what was read may stand in a model's name. Assumes nothing.
use Prim.Native.Nat.{◌-◌}
use lib.ListN.{length}
use Rattle.blif_scan.proofs.Heading.{Passed}
use Rattle.blif_scan.proofs.word.Given as goal

abbrev pub invariant-loop-b : goal.invariant-loop-b
invariant-loop-b l = Passed l.s l.at l.p

abbrev pub decreases-loop-b : goal.decreases-loop-b
decreases-loop-b l = length l.s - l.p
