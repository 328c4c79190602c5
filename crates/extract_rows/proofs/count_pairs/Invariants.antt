-- `extract_rows::count_pairs` meets its contract. The loop's invariant: the pairs of the literals that are left are due. Assumes nothing.
use lib.ListN.{length}
use Rattle.cube.specs.Cube.{lits}
use Rattle.extract_counts.specs.Counts.{pairs_gain}
use Rattle.extract_rows.proofs.Counting.{Due}
use Rattle.extract_rows.proofs.count_pairs.Given as goal

abbrev pub invariant-loop-p : goal.invariant-loop-p
invariant-loop-p l = Due l.up l.initial.t l.initial.g l.t l.g (λ k. pairs_gain k (lits l.rest.rest)) (λ k. pairs_gain k (lits l.initial.rest.rest))

abbrev pub decreases-loop-p : goal.decreases-loop-p
decreases-loop-p l = length (lits l.rest.rest)
