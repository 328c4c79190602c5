-- The answers of `drive_request::number`, whose loop's invariant stands beside. Assumes nothing.
use mathlib.Core.Path.{◌≡◌, sym, ap, ◌∙◌}
use mathlib.Core.{Bool.true, Bool.false}
use Prim.Native.Nat.{◌+◌, ◌*◌, ◌<◌}
use native.Mathlib.Omega.{arith}
use lib.ListN.{get_or, drop}
use Rattle.drive_request.specs.Numbers.{digit_of, hex_after, well_led, number_of}
use Rattle.drive_request.proofs.Hexing.{led-length, digit_some, digit_none, hex-stop, hex-on, hex-done, hex-grows, hex-fits}
use Rattle.drive_request.proofs.number.Goals as goal
use Rattle.drive_request.proofs.number.Goals.{At-loop-b, In_ok-d}

-- the word is led well, so that it has at most 16 digits
led : (c : At-loop-b) → well_led c.args.word.now ≡ true
led c = sym c.well_led.ensures ∙ c.if-not-well_led.false

pub returns-then-not-well_led : goal.returns-then-not-well_led
unfolding number_of
returns-then-not-well_led c =
    let e : well_led c.args.word.now ≡ false = sym c.well_led.ensures ∙ c.if-not-well_led.true in rw e

pub returns-in_err-d : goal.returns-in_err-d
unfolding number_of
returns-in_err-d c =
    let h = digit_none _ (sym c.in_err-d.was ∙ c.digit.ensures) in
    rw (c.from_residual.ensures, led (goal.at.returns-in_err-d c).At-loop-b)
    (sym (hex-stop c.args.word.now c.loop-b.value c.loop-b.b-index c.loop-b-test.true h) ∙ c.loop-b.invariant.1)

-- the number has room for one digit more
fits : (c : In_ok-d) → 16 * c.loop-b.value + c.in_ok-d.d < 18446744073709551616
fits c =
    let e : well_led c.args.word.now ≡ true = sym c.well_led.ensures ∙ c.if-not-well_led.false in
    let d = digit_some _ (sym c.in_ok-d.was ∙ c.digit.ensures) in
    hex-fits c.loop-b.value c.in_ok-d.d c.loop-b.b-index c.loop-b.invariant.0 (omega (arith, d.0, d.1))
    (omega (arith, c.loop-b-test.true, led-length c.args.word.now e))

pub overflow_mul-value : goal.overflow_mul-value
overflow_mul-value c = omega (arith, fits c)

pub overflow_add-value : goal.overflow_add-value
overflow_add-value c = omega (arith, fits (goal.at.overflow_add-value c).In_ok-d)

pub loop-b-preserved : goal.loop-b-preserved
loop-b-preserved c =
    let d = digit_some _ (sym c.in_ok-d.was ∙ c.digit.ensures) in
    let v : c.from.result ≡ digit_of (get_or c.args.word.now c.loop-b.b-index 0) = omega arith in (
      hex-grows c.loop-b.value c.from.result c.loop-b.b-index c.loop-b.invariant.0 (omega arith),
      ap (λ k. hex_after (16 * c.loop-b.value + k) (drop (c.loop-b.b-index + 1) c.args.word.now)) v
          ∙ sym (hex-on c.args.word.now c.loop-b.value c.loop-b.b-index c.loop-b-test.true d.0) ∙ c.loop-b.invariant.1,
    )

pub returns : goal.returns
unfolding number_of
returns c = rw (led (goal.at.returns c).At-loop-b)
    (sym (hex-done c.args.word.now c.loop-b.value c.loop-b.b-index c.loop-b-test.false) ∙ c.loop-b.invariant.1)
