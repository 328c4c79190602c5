-- `table::build` meets its contract. The loop's invariant: the outputs passed are laid one after the other. Assumes nothing.
use mathlib.Core.{List.map, Path.◌≡◌}
use lib.ListN.{length}
use Rattle.sets.specs.Lists.{from}
use Rattle.network.specs.Handed.{word_slots, LaidNodes}
use Rattle.table.specs.Parts.{formed}
use Rattle.table.proofs.build.Given as goal

abbrev pub invariant-loop-j : goal.invariant-loop-j
invariant-loop-j l =
    (length l.out ≡ word_slots) × LaidNodes l.out l.counts l.at (map (formed l.words l.marks (length l.marks)) (from 0 l.j))
