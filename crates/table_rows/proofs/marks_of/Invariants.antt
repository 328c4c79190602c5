-- `table_rows::marks_of` meets its contract. The loop's invariant: the mask is that of the marks so far, the last of them first. Assumes nothing.
use Rattle.std.proofs.Common.{◌≡◌, Bor, ℕ, map, reverse, eqb}
use Rattle.sets.specs.Masks.{packed}
use Rattle.table_rows.proofs.marks_of.Given as goal

abbrev pub invariant-loop-b : goal.invariant-loop-b
invariant-loop-b l = l.mask ≡ packed (map (eqb 49) (reverse (map (λ (b : Bor ℕ). b.now) l.yielded)))
