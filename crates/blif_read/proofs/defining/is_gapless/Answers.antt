-- The answers of `blif_read::defining::is_gapless`.
use Prim.Native.Nat.{◌+◌, min}
use mathlib.Core.Path.{sym, ◌∙◌}
use native.Mathlib.Omega.{arith}
use Rattle.blif_lines.specs.Marking.{window}
use Rattle.blif_lines.proofs.Windows.{windows-next, windows-stop, windows-done}
use Rattle.blif_read.proofs.Tallying.{inputs-stand, others-stand}
use Rattle.blif_read.proofs.defining.is_gapless.Goals as goal

pub loop-base-init : goal.loop-base-init
loop-base-init c = λ m bs f b k. windows-done _ c.args.n _ (omega arith) (inputs-stand _ m bs)

pub returns-then-not-does_stand : goal.returns-then-not-does_stand
returns-then-not-does_stand c = λ m bs f b k.
    sym (windows-stop _ c.loop-base.base c.span.result _ (omega (arith, c.span.ensures))
    (others-stand _ m bs c.loop-base.base _ c.loop-base.auto.base ∙ sym (c.does_stand.ensures m bs f b k) ∙ c.if-not-does_stand.true))

pub loop-base-preserved : goal.loop-base-preserved
loop-base-preserved c = λ m bs f b k.
    windows-next _ c.loop-base.base c.span.result window _ c.span.ensures c.loop-base-test.true (c.loop-base.invariant m bs f b k)
    (others-stand _ m bs c.loop-base.base _ c.loop-base.auto.base
    ∙ sym (c.does_stand.ensures m bs f b k) ∙ c.if-not-does_stand.false)

pub returns : goal.returns
returns c = λ m bs f b k.
    sym (windows-done _ (min c.loop-base.base c.args.top) _ (omega (arith, c.loop-base-test.false)) (c.loop-base.invariant m bs f b k))

-- the last window
pub returns-else-not-does_stand : goal.returns-else-not-does_stand
returns-else-not-does_stand c = λ m bs f b k.
    sym (windows-done _ (min (c.loop-base.base + window) c.args.top) _ (omega arith)
    (windows-next _ c.loop-base.base c.span.result window _ c.span.ensures c.loop-base-test.true (c.loop-base.invariant m bs f b k)
    (others-stand _ m bs c.loop-base.base _ c.loop-base.auto.base
    ∙ sym (c.does_stand.ensures m bs f b k) ∙ c.if-not-does_stand.false)))
