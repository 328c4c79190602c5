-- The answers of `blif_scan::read_number`.
use Prim.Native.Nat.{ℕ, ◌+◌, ◌*◌}
use mathlib.Core.Path.{◌≡◌, sym, ◌∙◌, ap}
use mathlib.Core.List.{◌++◌}
use native.Mathlib.Omega.{arith}
use Rattle.letters.specs.Letters.{decimal}
use Rattle.letters.proofs.Numbers.{decimal-one}
use Rattle.blif_scan.specs.Scanning.{left}
use Rattle.blif_scan.proofs.Numerals.{numeral-none, numeral-zero, zero-stop, numeral-stop, numeral-next, numeral-large}
use Rattle.blif_scan.proofs.read_number.Goals as goal

pub returns-in_err-lead : goal.returns-in_err-lead
returns-in_err-lead c = rw c.from_residual.ensures (numeral-none c.args.s.now c.args.at c.in_err-lead.ensures)

pub returns-in_err-end_of_word : goal.returns-in_err-end_of_word
returns-in_err-end_of_word c =
    rw c.from_residual-in_err-end_of_word.ensures
    (zero-stop _ _ _ _ c.in_ok-lead.ensures (omega arith) c.in_err-end_of_word.ensures)

pub returns-then-lead-eq0 : goal.returns-then-lead-eq0
returns-then-lead-eq0 c = numeral-zero _ _ _ _ c.in_ok-lead.ensures (omega arith) _ c.in_ok-end_of_word.ensures

pub loop-d-init : goal.loop-d-init
loop-d-init c =
    let d = c.in_ok-lead.ensures in
    (omega arith, omega (arith, d.2), d.1.on, d.0 ∙ ap (◌++ left c.args.s.now c.in_ok-lead.after) (sym (decimal-one c.in_ok-lead.lead d.2)))

pub returns-in_err-checked_mul : goal.returns-in_err-checked_mul
returns-in_err-checked_mul c =
    rw c.from_residual-in_err-checked_mul.ensures
    (numeral-large c.args.s.now c.args.at c.loop-d.p c.loop-d.n c.loop-d.invariant.3 c.in-Some.d c.in-Some.q c.loop-d.invariant.0 c.in-Some.ensures
    (omega (arith, c.in_err-checked_mul.ensures)))

pub returns-in_err-n : goal.returns-in_err-n
returns-in_err-n c =
    rw c.from_residual-in_err-n.ensures
    (numeral-large c.args.s.now c.args.at c.loop-d.p c.loop-d.n c.loop-d.invariant.3 c.in-Some.d c.in-Some.q c.loop-d.invariant.0 c.in-Some.ensures
    (omega (arith, c.in_err-n.ensures, c.in_ok-checked_mul.ensures)))

pub loop-d-preserved : goal.loop-d-preserved
loop-d-preserved c =
    let d = c.in-Some.ensures in
    let more : c.in_ok-n.n ≡ 10 * c.loop-d.n + c.in-Some.d = omega (arith, c.in_ok-n.ensures, c.in_ok-checked_mul.ensures) in (
      omega (arith, c.loop-d.invariant.0),
      omega (arith, c.in_ok-n.ensures),
      omega (arith, c.loop-d.invariant.2, d.1.on),
      numeral-next c.args.s.now c.args.at c.loop-d.p c.loop-d.n c.loop-d.invariant.3 c.in-Some.d c.in-Some.q c.loop-d.invariant.0 d
          ∙ ap (λ (x : ℕ). decimal x ++ left c.args.s.now c.in-Some.q) (sym more),
    )

pub returns-in_err-end_of_word-2 : goal.returns-in_err-end_of_word-2
returns-in_err-end_of_word-2 c =
    rw c.from_residual-in_err-end_of_word-2.ensures
    (numeral-stop c.args.s.now c.args.at c.loop-d.p c.loop-d.n c.loop-d.invariant.3 c.in_default.ensures c.in_err-end_of_word-2.ensures)
