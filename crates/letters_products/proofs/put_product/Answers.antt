-- The answers of `letters_products::put_product`.
use mathlib.Core.Path.{◌≡◌, ◌∙◌, ap}
use mathlib.Core.List.{[], ◌∷◌}
use native.Mathlib.Omega.{arith}
use Rattle.cube.specs.Cube.{lits}
use Rattle.letters.proofs.Laying.{due_all, due-as, due-next, due-last}
use Rattle.letters_products.specs.Products.{cube_text}
use Rattle.letters_products.proofs.Texts.{starred, cube-none, cube-starred}
use Rattle.letters_products.proofs.put_product.Goals as goal

pub returns-in_default : goal.returns-in_default
returns-in_default c =
    let none : lits c.args.c ≡ [] = rw (← c.each-literals.ensures) c.in_default.ensures.steps.0 in
    due-last (due_all _ _ (omega arith) (omega arith) (ap cube_text none ∙ cube-none)) c.put.ensures

pub loop-l-init : goal.loop-l-init
loop-l-init c =
    let first : lits c.args.c ≡ c.in-Some.first.0 ∷ lits c.into_iter-l-iterator.result.rest =
    rw (← c.each-literals.ensures, c.into_iter-l-iterator.ensures.into_iter_gives) c.in-Some.ensures.steps in
    due-next (due_all _ _ (omega arith) (omega arith) (ap cube_text first ∙ cube-starred _ _)) c.put_literal-p.ensures

pub loop-l-preserved : goal.loop-l-preserved
loop-l-preserved c = due-next (due-next (due-as c.loop-l.invariant (ap starred c.in-Some-l.ensures.steps)) c.put-p.ensures) c.put_literal-p-in-loop-l.ensures
