-- `expression::clear` meets its contract. The loop's invariant: the places from a up to i hold the empty cube. Assumes nothing.
use Prim.Native.Nat.{◌-◌, ◌≤◌}
use mathlib.Core.Path.{◌≡◌}
use mathlib.Core.List.{[]}
use lib.ListN.{length, replicate}
use Rattle.expression.specs.Words.{Placed}
use Rattle.expression.proofs.clear.Given as goal

abbrev pub invariant-loop-i : goal.invariant-loop-i
invariant-loop-i l = (l.a ≤ l.i) × (l.i - l.a ≤ l.stop - l.a) × (length l.s ≡ length l.initial.s) × Placed l.initial.s l.s l.a (replicate (l.i - l.a) [])
