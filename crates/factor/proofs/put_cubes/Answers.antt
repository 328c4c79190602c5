-- The answers of `factor::put_cubes`.
use mathlib.Core.Path.{◌≡◌, ◌∙◌, ap}
use mathlib.Core.List.{[], ◌∷◌}
use native.Mathlib.Omega.{arith}
use Rattle.cube.specs.Cube.{lits}
use Rattle.expression.specs.Words.{cubes_of}
use Rattle.letters_products.specs.Products.{cube_text}
use Rattle.letters.proofs.Laying.{due_all, due-as, due-next, due-last, due-done}
use Rattle.factor.specs.Text.{sum_text}
use Rattle.factor.proofs.Texts.{marked-nil, marked-cons, plussed, sum_first, sum-none}
use Rattle.factor.proofs.put_cubes.Goals as goal

pub returns-in_default : goal.returns-in_default
returns-in_default c =
    let none : cubes_of c.args.f.now ≡ [] = rw (← c.each-cubes.ensures) c.in_default.ensures.steps.0 in
    due-last (due_all _ _ (omega arith) (omega arith) (ap sum_text none ∙ sum-none)) c.put.ensures

pub loop-c-init : goal.loop-c-init
loop-c-init c =
    let first : cubes_of c.args.f.now ≡ lits c.in-Some.first ∷ cubes_of c.into_iter-c-iterator.result.words.now =
    rw (← c.each-cubes.ensures, c.into_iter-c-iterator.ensures.into_iter_gives) c.in-Some.ensures.steps in
    due-next (due_all _ _ (omega arith) (omega arith) (ap sum_text first ∙ sum_first _ _)) c.put_product-p.ensures

pub loop-c-preserved : goal.loop-c-preserved
loop-c-preserved c =
    let s = due-as c.loop-c.invariant (ap plussed c.in-Some-c.ensures.steps ∙ marked-cons cube_text 43 _ _) in
    due-next (due-next s c.put-p.ensures) c.put_product-p-in-loop-c.ensures

pub returns : goal.returns
returns c = due-done (due-as c.loop-c.invariant (ap plussed c.in-None.ensures.steps.0 ∙ marked-nil cube_text 43))
