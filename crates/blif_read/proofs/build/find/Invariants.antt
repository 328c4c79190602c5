-- `blif_read::build::find` meets its contract. The loop's invariant: whatever the blocks are, those left stand at the place reached, and none of those
-- passed defines the name. The measure is what is left of the text. Assumes nothing.
use Prim.Native.Nat.{ℕ, ◌-◌, ◌≤◌}
use mathlib.Core.List.{List}
use lib.ListN.{length}
use Rattle.sets.specs.Word.{largest}
use Rattle.blif_laws.specs.Text.{Block}
use Rattle.blif_scan.specs.Scanning.{left, label_of}
use Rattle.blif_form.specs.Surveying.{BlocksOf, SmallBlocks}
use Rattle.blif_read.proofs.Finding.{Left}
use Rattle.blif_read.proofs.build.find.Given as goal

abbrev pub invariant-loop-b : goal.invariant-loop-b
invariant-loop-b l = (m : ℕ) (bs : List Block) → m ≤ largest → BlocksOf (left l.s l.first) m bs → SmallBlocks bs → Left l.s l.at m (label_of l.name) bs

abbrev pub decreases-loop-b : goal.decreases-loop-b
decreases-loop-b l = length l.s - l.at
