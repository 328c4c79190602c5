-- The answers of `image_number::new_cube`.
use mathlib.Core.Path.{sym, ◌∙◌, ap}
use Rattle.cube.{proofs.Lits.lits-asc, specs.Cube.lits, specs.Cube.joined}
use Rattle.image_number.specs.Parts.{cube_by}
use Rattle.image_number.proofs.Taking.{by-none, by-more, by_all, first-small}
use Rattle.image_number.proofs.new_cube.Goals as goal

pub loop-l-init : goal.loop-l-init
loop-l-init c =
    by-none _ _ _ c.empty-r.ensures
    ∙ ap (λ d. cube_by c.args.places.now (lits d)) (ap (λ s. s.rest) c.into_iter-l-iterator.ensures.into_iter_gives ∙ c.each-l-items.ensures)

pub new_literal-requires : goal.new_literal-requires
new_literal-requires c = (c.requires, first-small _ c.in-Some.ensures.steps)

pub loop-l-preserved : goal.loop-l-preserved
loop-l-preserved c =
    by-more _ _ _ _ _ _ c.requires (lits-asc c.loop-l.r) c.in-Some.ensures.steps
    (c.with-r.ensures ∙ ap (λ x. joined x (lits c.loop-l.r)) c.new_literal.ensures) ∙ c.loop-l.invariant

pub returns : goal.returns
returns c = sym (by_all _ _ _ c.in-None.ensures.steps.0) ∙ c.loop-l.invariant
