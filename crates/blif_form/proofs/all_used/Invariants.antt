-- `blif_form::all_used` meets its contract. The loop's invariant: the columns before `base` are used. Assumes nothing.
use Prim.Native.Nat.{min}
use mathlib.Core.Path.{◌≡◌}
use mathlib.Core.Bool.{true}
use lib.ListN.{length}
use Rattle.blif_form.specs.Surveying.{UsedFrom}
use Rattle.blif_form.proofs.all_used.Given as goal

abbrev pub invariant-loop-base : goal.invariant-loop-base
invariant-loop-base l = (length l.marks ≡ length l.initial.marks) × UsedFrom l.s l.at l.r 0 (min l.base l.r) true
