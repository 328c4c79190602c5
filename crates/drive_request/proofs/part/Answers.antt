-- The answers of `drive_request::part`, whose loop's invariant stands beside. Assumes nothing.
use mathlib.Core.Path.{sym, ap, ◌∙◌}
use Prim.Native.Nat.{◌+◌}
use native.Mathlib.Omega.{arith}
use lib.ListN.{length}
use Rattle.sets.specs.Lists.{total}
use Rattle.drive_request.proofs.Splitting.{words-span, ahead-stop, ahead-on, ahead-done}
use Rattle.drive_request.proofs.part.Goals as goal

pub overflow_add-at-in-loop-word : goal.overflow_add-at-in-loop-word
overflow_add-at-in-loop-word c = omega (arith, ap (total (λ w. length w + 1)) c.in-Some.ensures.steps, words-span c.args.text.now)

pub loop-word-preserved : goal.loop-word-preserved
loop-word-preserved c = (
  omega (arith, ahead-on c.in-Some.ensures.steps (sym c.is_part.ensures ∙ c.if-is_part.false), c.loop-word.invariant.0),
  omega (arith, ap (total (λ w. length w + 1)) c.in-Some.ensures.steps, c.loop-word.invariant.1),
)

pub returns-in-None-clause-value : goal.returns-in-None-clause-value
returns-in-None-clause-value c = omega (arith, ahead-done c.in-None.ensures.steps.0, c.loop-word.invariant.0)

pub returns-in-None-clause-within : goal.returns-in-None-clause-within
returns-in-None-clause-within c = omega (arith, words-span c.args.text.now, c.loop-word.invariant.1)

pub returns-then-is_part-clause-value : goal.returns-then-is_part-clause-value
returns-then-is_part-clause-value c =
    omega (arith, ahead-stop c.in-Some.ensures.steps (sym c.is_part.ensures ∙ c.if-is_part.true), c.loop-word.invariant.0)

pub returns-then-is_part-clause-within : goal.returns-then-is_part-clause-within
returns-then-is_part-clause-within c = omega (arith, words-span c.args.text.now, c.loop-word.invariant.1)
