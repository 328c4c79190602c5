-- `blif_form::walk` meets its contract. The loop's invariant: the blocks before the place are passed. The measure is what is left of the
-- text. Assumes nothing.
use Prim.Native.Nat.{◌-◌}
use mathlib.Core.Path.{◌≡◌}
use lib.ListN.{length}
use Rattle.blif_form.proofs.Surveying.{Passed}
use Rattle.blif_form.proofs.walk.Given as goal

abbrev pub invariant-loop-q : goal.invariant-loop-q
invariant-loop-q l = Passed l.s l.at l.m l.p l.rows l.top × (length l.marks ≡ length l.initial.marks)

abbrev pub decreases-loop-q : goal.decreases-loop-q
decreases-loop-q l = length l.s - l.p
