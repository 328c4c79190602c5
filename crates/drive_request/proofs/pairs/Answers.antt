-- The answers of `drive_request::pairs`, whose loop's invariant stands beside. Assumes nothing.
use mathlib.Core.Path.{◌≡◌, sym, ◌∙◌}
use native.Mathlib.Omega.{arith}
use lib.ListN.{length}
use Rattle.drive_request.proofs.Hexing.{digit_some, digit_none, pairs-odd, pairs-left, pairs-right, pairs-byte, pairs-done}
use Rattle.drive_request.proofs.Storing.{storing-as, storing-none, storing-full, storing-next, storing-done, stored-within}
use Rattle.drive_request.proofs.pairs.Goals as goal

pub returns-in_default-clause-stored : goal.returns-in_default-clause-stored
returns-in_default-clause-stored c =
    let h = c.in-Some.ensures.steps in
    storing-none (storing-as (pairs-odd _ _ _ h.1.0 (omega (arith, h.1.1, c.loop-pair.invariant.0)) h.1.2 c.in_default.len_below) c.loop-pair.invariant.1)

pub returns-in_err-high-clause-stored : goal.returns-in_err-high-clause-stored
returns-in_err-high-clause-stored c =
    let two : length c.in-Some.pair.now ≡ 2 = omega arith in
    let h = digit_none _ (sym c.in_err-high.was ∙ c.digit.ensures) in
    rw c.from_residual.ensures (storing-none (storing-as (pairs-left _ _ _ c.in-Some.ensures.steps.1.0 two h) c.loop-pair.invariant.1))

pub returns-in_err-low-clause-stored : goal.returns-in_err-low-clause-stored
returns-in_err-low-clause-stored c =
    let two : length c.in-Some.pair.now ≡ 2 = omega arith in
    let h = digit_some _ (sym c.in_ok-high.was ∙ c.digit.ensures) in
    let k = digit_none _ (sym c.in_err-low.was ∙ c.digit-in-loop-pair.ensures) in
    rw c.from_residual-in_err-low.ensures (storing-none (storing-as (pairs-right _ _ _ c.in-Some.ensures.steps.1.0 two h.0 k) c.loop-pair.invariant.1))

pub returns-then-n-room-clause-stored : goal.returns-then-n-room-clause-stored
returns-then-n-room-clause-stored c =
    let two : length c.in-Some.pair.now ≡ 2 = omega arith in
    let h = digit_some _ (sym c.in_ok-high.was ∙ c.digit.ensures) in
    let k = digit_some _ (sym c.in_ok-low.was ∙ c.digit-in-loop-pair.ensures) in
    storing-full (storing-as (pairs-byte _ _ _ c.in-Some.ensures.steps.1.0 two h k) c.loop-pair.invariant.1) c.if-n-room.true

pub loop-pair-preserved : goal.loop-pair-preserved
loop-pair-preserved c =
    let two : length c.in-Some.pair.now ≡ 2 = omega arith in
    let h = digit_some _ (sym c.in_ok-high.was ∙ c.digit.ensures) in
    let k = digit_some _ (sym c.in_ok-low.was ∙ c.digit-in-loop-pair.ensures) in (
      c.in-Some.ensures.steps.0 ∙ c.loop-pair.invariant.0,
      storing-next (storing-as (pairs-byte _ _ _ c.in-Some.ensures.steps.1.0 two h k) c.loop-pair.invariant.1) c.if-n-room.false,
    )

pub returns-clause-stored : goal.returns-clause-stored
returns-clause-stored c = storing-done (storing-as (pairs-done _ c.in-None.ensures.steps.1.0) c.loop-pair.invariant.1)

pub returns-clause-within : goal.returns-clause-within
returns-clause-within c = stored-within (storing-done (storing-as (pairs-done _ c.in-None.ensures.steps.1.0) c.loop-pair.invariant.1))
