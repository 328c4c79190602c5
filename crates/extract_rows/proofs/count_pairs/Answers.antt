-- The answers of `extract_rows::count_pairs`.
use mathlib.Core.{Path.ap, Path.refl}
use Rattle.cube.specs.Cube.{lits}
use Rattle.extract_counts.specs.Counts.{pairs_gain}
use Rattle.extract_rows.proofs.Counting.{due_all, due-next, due-done, counts-as, led-inside, pairs-none, pairs_next}
use Rattle.extract_rows.proofs.count_pairs.Goals as goal

pub loop-p-init : goal.loop-p-init
loop-p-init c = due_all _ _ _ (λ k. refl)

pub count_pairs_of-requires : goal.count_pairs_of-requires
count_pairs_of-requires c = led-inside _ c.in-Some.ensures.steps

pub loop-p-preserved : goal.loop-p-preserved
loop-p-preserved c = due-next _ c.loop-p.invariant c.count_pairs_of.ensures (λ k. pairs_next k c.in-Some.ensures.steps)

pub returns : goal.returns
returns c = counts-as _ (λ k. ap (λ s. pairs_gain k (lits s)) c.each-rest.ensures) (due-done c.loop-p.invariant (λ k. pairs-none k c.in_default.ensures.steps.0))
