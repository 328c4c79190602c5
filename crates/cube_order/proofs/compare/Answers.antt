-- `cube_order::compare` meets its contract. Assumes nothing.
use Rattle.sets.proofs.Ordering.{none-odd, left-before, left_after, right-before, right-after}
use Rattle.cube.proofs.Verdict.{is-before, is_same, is-after}
use Rattle.cube.specs.Cube.{answer}
use mathlib.Core.Path.{sym, ◌∙◌, ap}
use Rattle.cube_order.proofs.compare.Goals as goal

pub returns-then-goes_on : goal.returns-then-goes_on
returns-then-goes_on c =
    is-before _ _ (left-before 64 _ _ _ _ _ (ap answer (sym c.in-Some.is) ∙ c.first_at.ensures)
    (sym c.has.ensures ∙ c.if-has.true) (sym c.goes_on.ensures ∙ c.if-goes_on.true))

pub returns-then-has : goal.returns-then-has
returns-then-has c =
    is-after _ _ (left_after 64 _ _ _ _ _ (ap answer (sym c.in-Some.is) ∙ c.first_at.ensures)
    (sym c.has.ensures ∙ c.if-has.true) (sym c.goes_on.ensures ∙ c.if-goes_on.false))

pub returns-then-goes_on-2 : goal.returns-then-goes_on-2
returns-then-goes_on-2 c =
    is-after _ _ (right-after 64 _ _ _ _ _ (ap answer (sym c.in-Some.is) ∙ c.first_at.ensures)
    (sym c.has.ensures ∙ c.if-has.false) (sym c.goes_on-2.ensures ∙ c.if-goes_on-2.true))

pub returns-in_default : goal.returns-in_default
returns-in_default c = is_same _ _ (none-odd 64 _ _ _ _ (ap answer (sym c.in_default.is) ∙ c.first_at.ensures))

pub returns : goal.returns
returns c =
    is-before _ _ (right-before 64 _ _ _ _ _ (ap answer (sym c.in-Some.is) ∙ c.first_at.ensures)
    (sym c.has.ensures ∙ c.if-has.false) (sym c.goes_on-2.ensures ∙ c.if-goes_on-2.false))
