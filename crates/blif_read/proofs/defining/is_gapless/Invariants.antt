-- `blif_read::is_gapless` meets its contract. The loop's invariant: every number below the window stands. Assumes nothing.
use Prim.Native.Nat.{ℕ, ◌≤◌, min}
use mathlib.Core.Path.{◌≡◌}
use mathlib.Core.{Bool.true, List.List}
use Rattle.sets.specs.{Lists.all, Lists.from, Sets.mem, Word.largest}
use Rattle.blif_laws.specs.{Text.Block, Reading.standing}
use Rattle.blif_scan.specs.Scanning.{left}
use Rattle.blif_read.specs.Defining.{model_by}
use Rattle.blif_form.specs.Surveying.{BlocksOf, SmallBlocks}
use Rattle.blif_read.proofs.defining.is_gapless.Given as goal

abbrev pub invariant-loop-base : goal.invariant-loop-base
invariant-loop-base l = (m : ℕ) (bs : List Block) → m ≤ largest → BlocksOf (left l.s l.first) m bs → SmallBlocks bs
    → all (λ v. mem v (standing (model_by l.n m bs))) (from 0 (min l.base l.top)) ≡ true
