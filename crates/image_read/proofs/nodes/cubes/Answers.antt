-- The answers of `image_read::nodes::cubes`.
use native.Mathlib.Omega.{arith}
use borrow.Author.Rules.{rules}
use Rattle.image_read.proofs.Filling.{fill-next, fill_end}
use Rattle.image_read.proofs.{Going.going-bad}
use Rattle.image_read.proofs.nodes.cubes.Goals as goal

pub returns-in_err-c : goal.returns-in_err-c
returns-in_err-c c =
    let q = going-bad _ _ c.loop-i.invariant.going c.loop-i-test.true _ (rw c.in_err-c.was at c.cube_at.ensures) in
    search (rules, q)

pub loop-i-preserved : goal.loop-i-preserved
loop-i-preserved c =
    fill-next c.loop-i.invariant c.loop-i-test.true _ (rw c.in_ok-c.was at c.cube_at.ensures) _ c.put_cube.ensures _ c.added-s.ensures

pub returns : goal.returns
returns c = fill_end c.loop-i.invariant c.loop-i-test.false (omega (arith, c.requires.2))
