-- The answers of `blif_scan::read_byte`.
use Prim.Native.Nat.{◌+◌, ◌<◌}
use mathlib.Core.Path.{sym, ◌∙◌, ap}
use mathlib.Core.List.{◌∷◌}
use native.Mathlib.Omega.{arith}
use lib.ListN.{length}
use borrow.Author.Tests.{ltb-false}
use Rattle.blif_laws.proofs.Breaking.{joined-done}
use Rattle.blif_scan.specs.Scanning.{left}
use Rattle.blif_scan.proofs.Scanning.{left-joint, left-byte}
use Rattle.blif_scan.proofs.read_byte.Goals as goal

pub loop-p-preserved : goal.loop-p-preserved
loop-p-preserved c = (omega arith, c.loop-p.invariant.1 ∙ left-joint c.args.s.now c.loop-p.p (sym c.is_joint.ensures ∙ c.loop-p-test.true))

pub returns-in_err-b : goal.returns-in_err-b
returns-in_err-b c = rw c.from_residual.ensures (c.loop-p.invariant.1 ∙ joined-done c.args.s.now c.loop-p.p (ltb-false c.loop-p.p (length c.args.s.now) (sym c.in_err-b.ensures.lookup.0)))

pub returns : goal.returns
returns c =
    let here = c.in_ok-b.ensures.lookup in
    let inside : c.loop-p.p < length c.args.s.now = here.3.0 in
    let byte = left-byte c.args.s.now c.loop-p.p inside (sym c.is_joint.ensures ∙ c.loop-p-test.false) in
    (c.loop-p.invariant.1 ∙ byte ∙ ap (◌∷ left c.args.s.now (c.loop-p.p + 1)) (sym (here.3.1 0)), record { on = omega arith; within = omega arith })
