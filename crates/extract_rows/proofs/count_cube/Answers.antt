-- `extract_rows::count_cube` meets its contract: three amounts, one after the other. Assumes nothing.
use Rattle.cube.specs.Cube.{lits}
use Rattle.expression.specs.Words.{cubes_of}
use Rattle.extract_counts.specs.Counts.{pairs_gain, row_gain}
use Rattle.extract_rows.proofs.{Counting.counts-then}
use Rattle.extract_rows.proofs.count_cube.Goals as goal

pub returns : goal.returns
returns c =
    let s = c.args in
    let x = lits s.c in
    counts-then s.up (λ k. pairs_gain k x) _ c.count_pairs.ensures (counts-then s.up (λ k. row_gain k x (cubes_of s.a.now))
    (λ k. row_gain k x (cubes_of s.b.now)) c.count_row.ensures c.count_row-2.ensures)
