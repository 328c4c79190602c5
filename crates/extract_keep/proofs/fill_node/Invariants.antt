-- `extract_keep::fill_node` meets its contract: first the pairs of each cube, then the sums. The loop's invariant: the pairs of the cubes that
-- are left are still to be put in. Assumes nothing.
use Rattle.sets.specs.Lists.{total}
use Rattle.expression.specs.Words.{cubes_of}
use Rattle.extract_counts.specs.Counts.{pairs_gain}
use Rattle.extract_partners.proofs.Turning.{Partly}
use Rattle.extract_keep.proofs.fill_node.Given as goal

abbrev pub invariant-loop-c : goal.invariant-loop-c
invariant-loop-c l =
    Partly l.initial.t l.initial.g l.t l.g (λ k. total (pairs_gain k) (cubes_of l.c-iterator.words.now)) (λ k. total (pairs_gain k) (cubes_of l.f))
