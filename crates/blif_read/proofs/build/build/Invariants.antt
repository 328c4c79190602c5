-- `blif_read::build::build` meets its contract. The loop's invariant: whatever the blocks are, the nodes passed stand one after the other, their
-- counts beside them. Assumes nothing.
use Prim.Native.Nat.{◌≤◌}
use mathlib.Core.{Path.◌≡◌, List.List}
use lib.ListN.{length, take}
use Rattle.network.specs.{Net.nodes, Handed.LaidNodes, Handed.cube_slots, Handed.word_slots}
use Rattle.blif_laws.specs.{Text.Block, Reading.net_in}
use Rattle.blif_read.specs.Defining.{model_by}
use Rattle.blif_read.proofs.Building.{Whole}
use Rattle.blif_read.proofs.build.build.Given as goal

abbrev pub invariant-loop-i : goal.invariant-loop-i
invariant-loop-i l =
    (length l.out ≡ word_slots) × (l.at ≤ cube_slots)
    × ((bs : List Block) → Whole l.s l.first l.n l.m l.k bs → LaidNodes l.out l.sizes l.at (take l.i (nodes (net_in (model_by l.n l.m bs)))))
