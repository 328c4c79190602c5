-- `extract_rows::count_pairs_of` meets its contract. The loop's invariant: the pairs of p and the literals that are left are due. Assumes nothing.
use Rattle.cube.specs.Cube.{lits}
use Rattle.extract_rows.specs.Parts.{pairs_with}
use Rattle.extract_rows.proofs.Counting.{Due}
use Rattle.extract_rows.proofs.count_pairs_of.Given as goal

abbrev pub invariant-loop-q : goal.invariant-loop-q
invariant-loop-q l = Due l.up l.initial.t l.initial.g l.t l.g (λ k. pairs_with k l.p.0 (lits l.q-iterator.rest)) (λ k. pairs_with k l.p.0 (lits l.fn.others.rest))
