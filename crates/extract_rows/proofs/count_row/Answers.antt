-- The answers of `extract_rows::count_row`.
use mathlib.Core.Path.{ap, ◌∙◌}
use Rattle.cube.specs.Cube.{lits}
use Rattle.expression.specs.Words.{cubes_of}
use Rattle.expression.proofs.Chains.{left}
use Rattle.extract_counts.specs.Counts.{row_gain}
use Rattle.extract_rows.proofs.Counting.{due_all, due-next, due-done, row-none, row_next}
use Rattle.extract_rows.proofs.count_row.Goals as goal

pub loop-d-init : goal.loop-d-init
loop-d-init c =
    due_all _ _ _ (λ k. ap (row_gain k (lits c.args.c)) (ap left c.into_iter-d-iterator.ensures.into_iter_gives ∙ ap cubes_of c.each-d-items.ensures))

pub loop-d-preserved : goal.loop-d-preserved
loop-d-preserved c = due-next _ c.loop-d.invariant c.count_two.ensures (λ k. row_next k _ c.in-Some.ensures.steps)

pub returns : goal.returns
returns c = due-done c.loop-d.invariant (λ k. row-none k _ c.in-None.ensures.steps.0)
