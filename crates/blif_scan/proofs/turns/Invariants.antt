-- `blif_scan::turns` meets its contract. The loop's invariant: the first k names are read, each with its space. Assumes nothing.
use Prim.Native.Nat.{◌-◌}
use lib.ListN.{length}
use Rattle.blif_scan.proofs.Heading.{Turned}
use Rattle.blif_scan.proofs.turns.Given as goal

abbrev pub invariant-loop-q : goal.invariant-loop-q
invariant-loop-q l = Turned l.letter l.s l.at l.k l.p

abbrev pub decreases-loop-q : goal.decreases-loop-q
decreases-loop-q l = length l.s - l.p
