-- `blif_read::stand` meets its contract. The loop's invariant: what the blocks passed name is marked, and the others are left. Assumes nothing.
use Prim.Native.Nat.{ℕ, ◌-◌, ◌≤◌}
use mathlib.Core.Path.{◌≡◌}
use mathlib.Core.List.{List}
use lib.ListN.{length}
use Rattle.sets.specs.Word.{largest}
use Rattle.blif_laws.specs.{Text.Block, Reading.named_in}
use Rattle.blif_scan.specs.Scanning.{left}
use Rattle.blif_form.specs.Surveying.{BlocksOf, SmallBlocks}
use Rattle.blif_read.proofs.Counting.{Tallied}
use Rattle.blif_read.proofs.defining.stand.Given as goal

abbrev pub invariant-loop-b : goal.invariant-loop-b
invariant-loop-b l = (length l.marks ≡ length l.initial.marks)
    × ((m : ℕ) (bs : List Block) → m ≤ largest → BlocksOf (left l.s l.first) m bs → SmallBlocks bs → Tallied l.s l.at m l.base named_in bs l.initial.marks l.marks)

abbrev pub decreases-loop-b : goal.decreases-loop-b
decreases-loop-b l = length l.s - l.at
