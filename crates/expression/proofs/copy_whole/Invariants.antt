-- `expression::copy_whole` meets its contract. The loop's invariant: the cubes passed stand from place `at` on. Assumes nothing.
use Prim.Native.Nat.{◌-◌, ◌≤◌}
use mathlib.Core.Path.{◌≡◌}
use lib.ListN.{length, take}
use Rattle.expression.specs.Words.{cubes_of, Placed}
use Rattle.expression.proofs.copy_whole.Given as goal

abbrev pub invariant-loop-i : goal.invariant-loop-i
invariant-loop-i l = (l.i ≤ l.n) × (length l.to ≡ length l.initial.to) × Placed l.initial.to l.to l.at (take l.i (cubes_of l.s))
