-- The answers of `blif_form::all_used`.
use Prim.Native.Nat.{◌+◌, ◌≤◌}
use mathlib.Core.Path.{refl, ◌∙◌}
use native.Mathlib.Omega.{arith}
use Rattle.blif_form.proofs.Columns.{used-none, used-next, used-less, used_all}
use Rattle.blif_form.proofs.all_used.Goals as goal

pub loop-base-init : goal.loop-base-init
loop-base-init c = (refl, used-none c.args.s.now c.args.at c.args.r)

pub returns-then-not-is_used : goal.returns-then-not-is_used
returns-then-not-is_used c =
    let within : c.loop-base.base + c.min-k.result ≤ c.args.r = omega (arith, c.min-k.ensures) in (
      used-less c.args.s.now c.args.at c.args.r c.loop-base.base c.min-k.result within c.if-not-is_used.ensures.0,
      c.is_used.ensures.1 ∙ c.loop-base.invariant.0,
    )

pub loop-base-preserved : goal.loop-base-preserved
loop-base-preserved c = (
  c.is_used.ensures.1 ∙ c.loop-base.invariant.0,
  used-next c.args.s.now c.args.at c.args.r c.loop-base.base c.min-k.result _ (omega (arith, c.min-k.ensures)) c.loop-base-test.true
      c.loop-base.invariant.1 c.if-not-is_used.ensures.0,
)

pub returns : goal.returns
returns c = (used_all c.args.s.now c.args.at c.args.r c.loop-base.base c.loop-base-test.false c.loop-base.invariant.1, c.loop-base.invariant.0)

-- the last window
pub returns-else-not-is_used : goal.returns-else-not-is_used
returns-else-not-is_used c = (
  used-next c.args.s.now c.args.at c.args.r c.loop-base.base c.min-k.result c.args.r (omega (arith, c.min-k.ensures)) c.loop-base-test.true
      c.loop-base.invariant.1 c.if-not-is_used.ensures.0,
  c.is_used.ensures.1 ∙ c.loop-base.invariant.0,
)
