-- `cokernel::agrees` meets its contract: the first literal that c lacks tells. Assumes nothing.
use mathlib.Core.Path.{sym, ap, ◌∙◌}
use Rattle.sets.{specs.Sets.first_from, proofs.Sets.without-asc}
use Rattle.cube.{proofs.Lits.lits-asc, specs.Cube.answer}
use Rattle.cokernel.proofs.{Steps.none-low, Steps.first-low}
use Rattle.cokernel.proofs.agrees.Goals as goal

pub returns-in-Some : goal.returns-in-Some
returns-in-Some c =
    let a = c.args in
    first-low a.j _ _ (without-asc _ _ (lits-asc a.m))
    (ap answer (sym c.in-Some.is) ∙ c.first_from.ensures
    ∙ ap (first_from 0) c.without.ensures)

pub returns-in-None : goal.returns-in-None
returns-in-None c = none-low _ _ (ap answer (sym c.in-None.is) ∙ c.first_from.ensures
    ∙ ap (first_from 0) c.without.ensures)
