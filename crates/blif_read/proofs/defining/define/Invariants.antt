-- `blif_read::define` meets its contract. The loop's invariant: what the blocks passed define is marked, and the others are left. Assumes nothing.
use Prim.Native.Nat.{ℕ, ◌-◌, ◌≤◌}
use mathlib.Core.Path.{◌≡◌}
use mathlib.Core.List.{List}
use lib.ListN.{length}
use Rattle.sets.specs.Word.{largest}
use Rattle.blif_laws.specs.Text.{Block}
use Rattle.blif_scan.specs.Scanning.{left}
use Rattle.blif_read.specs.Defining.{number_if}
use Rattle.blif_form.specs.Surveying.{BlocksOf, SmallBlocks}
use Rattle.blif_read.proofs.Counting.{Tallied}
use Rattle.blif_read.proofs.defining.define.Given as goal

abbrev pub invariant-loop-b : goal.invariant-loop-b
invariant-loop-b l = (length l.marks ≡ length l.initial.marks)
    × ((m : ℕ) (bs : List Block) → m ≤ largest → BlocksOf (left l.s l.first) m bs → SmallBlocks bs
    → Tallied l.s l.at m l.base (λ (b : Block). number_if l.outputs b.name) bs l.initial.marks l.marks)

abbrev pub decreases-loop-b : goal.decreases-loop-b
decreases-loop-b l = length l.s - l.at
