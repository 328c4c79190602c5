-- `extract_partners::is_short` meets its contract. The loop's invariant: the removals of the cubes passed are counted, and there is room for
-- them. Assumes nothing.
use Prim.Native.Nat.{◌+◌, ◌≤◌}
use mathlib.Core.Path.{◌≡◌}
use Rattle.expression.specs.Words.{cubes_of}
use Rattle.extract_partners.specs.Removal.{removals_of}
use Rattle.extract_partners.proofs.is_short.Given as goal

abbrev pub invariant-loop-c : goal.invariant-loop-c
invariant-loop-c l = (l.n + removals_of (cubes_of l.c-iterator.words.now) ≡ removals_of (cubes_of l.f)) × (l.n ≤ 16384)
