-- `extract_rows::count_row` meets its contract. The loop's invariant: what the cube makes with those that are left is due. Assumes nothing.
use Rattle.cube.specs.Cube.{lits}
use Rattle.expression.specs.Words.{cubes_of}
use Rattle.extract_counts.specs.Counts.{row_gain}
use Rattle.extract_rows.proofs.Counting.{Due}
use Rattle.extract_rows.proofs.count_row.Given as goal

abbrev pub invariant-loop-d : goal.invariant-loop-d
invariant-loop-d l =
    Due l.up l.initial.t l.initial.g l.t l.g (λ k. row_gain k (lits l.c) (cubes_of l.d-iterator.words.now)) (λ k. row_gain k (lits l.c) (cubes_of l.s))
