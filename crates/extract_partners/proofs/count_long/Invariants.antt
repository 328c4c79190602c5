-- `extract_partners::count_long` meets its contract. The loop's invariant: the sums of the cubes from place i on are still to be put in.
-- Assumes nothing.
use lib.ListN.{drop}
use Rattle.expression.specs.Words.{cubes_of}
use Rattle.extract_counts.specs.Counts.{sums_gain}
use Rattle.extract_partners.proofs.Turning.{Partly}
use Rattle.extract_partners.proofs.count_long.Given as goal

abbrev pub invariant-loop-i : goal.invariant-loop-i
invariant-loop-i l = Partly l.initial.t l.initial.g l.t l.g (λ k. sums_gain k (drop l.i (cubes_of l.f))) (λ k. sums_gain k (cubes_of l.f))
