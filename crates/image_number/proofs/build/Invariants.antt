-- `image_number::build` meets its contract. The loop's invariant: the nodes passed stand one after the other, renumbered, their counts
-- beside them. Assumes nothing.
use mathlib.Core.Path.{◌≡◌}
use lib.ListN.{length, take}
use Rattle.network.specs.{Net.nodes, Held.net_of}
use Rattle.network.specs.Handed.{LaidNodes, word_slots}
use Rattle.image_laws.specs.Renumber.{renumbered}
use Rattle.image_number.proofs.build.Given as goal

abbrev pub invariant-loop-i : goal.invariant-loop-i
invariant-loop-i l = (length l.words ≡ word_slots) × LaidNodes l.words l.counts l.at (take l.i (nodes (renumbered (net_of l.n))))
