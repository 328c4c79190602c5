-- The answers of `blif_read::defining::are_defined`.
use Prim.Native.Nat.{◌+◌, min}
use mathlib.Core.Path.{refl, sym, ◌∙◌}
use native.Mathlib.Omega.{arith}
use Rattle.sets.specs.Lists.{from}
use Rattle.blif_lines.specs.Marking.{window}
use Rattle.blif_lines.proofs.Windows.{windows-next, windows-stop, windows-done}
use Rattle.blif_read.proofs.defining.are_defined.Goals as goal

pub loop-base-init : goal.loop-base-init
loop-base-init c = λ m bs f b k. windows-done _ 0 _ (omega arith) (unfold from in refl)

pub returns-then-not-is_defined : goal.returns-then-not-is_defined
returns-then-not-is_defined c = λ m bs f b k.
    sym (windows-stop _ c.loop-base.base c.span.result _ (omega (arith, c.span.ensures))
    (sym (c.is_defined.ensures m bs f b k) ∙ c.if-not-is_defined.true))

pub loop-base-preserved : goal.loop-base-preserved
loop-base-preserved c = λ m bs f b k.
    windows-next _ c.loop-base.base c.span.result window _ c.span.ensures c.loop-base-test.true (c.loop-base.invariant m bs f b k)
    (sym (c.is_defined.ensures m bs f b k) ∙ c.if-not-is_defined.false)

pub returns : goal.returns
returns c = λ m bs f b k.
    sym (windows-done _ (min c.loop-base.base c.args.top) _ (omega (arith, c.loop-base-test.false)) (c.loop-base.invariant m bs f b k))

-- the last window
pub returns-else-not-is_defined : goal.returns-else-not-is_defined
returns-else-not-is_defined c = λ m bs f b k.
    sym (windows-done _ (min (c.loop-base.base + window) c.args.top) _ (omega arith)
    (windows-next _ c.loop-base.base c.span.result window _ c.span.ensures c.loop-base-test.true (c.loop-base.invariant m bs f b k)
    (sym (c.is_defined.ensures m bs f b k) ∙ c.if-not-is_defined.false)))
