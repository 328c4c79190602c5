-- `blif_read::are_defined` meets its contract. The loop's invariant: every number below the window is defined once. Assumes nothing.
use Prim.Native.Nat.{ℕ, ◌≤◌, min}
use mathlib.Core.Path.{◌≡◌}
use mathlib.Core.{Bool.true, List.List}
use lib.Dec.{eqb}
use Rattle.sets.specs.{Lists.all, Lists.from, Word.largest}
use Rattle.blif_laws.specs.Text.{Block}
use Rattle.blif_scan.specs.Scanning.{left}
use Rattle.blif_read.specs.Defining.{times_in}
use Rattle.blif_form.specs.Surveying.{BlocksOf, SmallBlocks}
use Rattle.blif_read.proofs.defining.are_defined.Given as goal

abbrev pub invariant-loop-base : goal.invariant-loop-base
invariant-loop-base l = (m : ℕ) (bs : List Block) → m ≤ largest → BlocksOf (left l.s l.first) m bs → SmallBlocks bs
    → all (λ v. eqb (times_in l.outputs l.n bs v) 1) (from 0 (min l.base l.top)) ≡ true
