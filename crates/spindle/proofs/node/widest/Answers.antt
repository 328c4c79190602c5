-- The answers of `spindle::node::widest`.
use Rattle.std.proofs.Common.{max, refl, ap, ◌∙◌}
use Rattle.spindle.proofs.Columns.{widest-none, widest-next, widest-whole}
use Rattle.spindle.proofs.node.widest.Goals as goal

pub loop-i-init : goal.loop-i-init
loop-i-init c = widest-none _

pub loop-i-preserved : goal.loop-i-preserved
loop-i-preserved c =
    let l = c.loop-i in widest-next _ l.i l.most _ l.invariant (c.max-most.ensures ∙ ap (max l.most) c.length_at.ensures)

pub returns : goal.returns
returns c = let l = c.loop-i in widest-whole _ l.i _ _ _ l.auto.i-end c.loop-i-test.false refl l.invariant
