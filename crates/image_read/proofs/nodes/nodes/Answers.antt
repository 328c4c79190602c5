-- The answers of `image_read::nodes::nodes`.
use native.Mathlib.Omega.{arith}
use borrow.Author.Rules.{rules}
use Rattle.image_read.proofs.Filling.{count_none, count_next, count-end}
use Rattle.image_read.proofs.{Going.going-bad}
use Rattle.image_read.proofs.nodes.nodes.Goals as goal

pub loop-count-init : goal.loop-count-init
loop-count-init c = count_none _ _ _ _ _ _

pub returns-in_err-n : goal.returns-in_err-n
returns-in_err-n c =
    let q = going-bad _ _ c.loop-count.invariant.going (omega arith) _ (rw c.in_err-n.was at c.node.ensures) in
    search (rules, q)

pub loop-count-preserved : goal.loop-count-preserved
loop-count-preserved c =
    count_next c.loop-count.invariant (omega arith) (omega arith) _ _ (rw c.in_ok-n.was at c.node.ensures)

pub returns : goal.returns
returns c = count-end c.loop-count.invariant (omega arith) (omega arith) (omega (arith, c.requires.2))
