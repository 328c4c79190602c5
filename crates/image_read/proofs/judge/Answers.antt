-- `image_read::judge` meets its contract. Each test is that of the definition. Assumes nothing.
use Prim.Native.Nat.{◌+◌, ◌-◌}
use mathlib.Core.Path.{◌≡◌, sym, ◌∙◌}
use native.Mathlib.Omega.{arith}
use Rattle.image_read.proofs.judge.Goals as goal

pub returns-then-not-in_order : goal.returns-then-not-in_order
returns-then-not-in_order c =
    let p : c.args.z.outputs + c.args.z.divisors - c.args.z.outputs ≡ c.args.z.divisors = omega arith in
    rw (sym c.is_padded.ensures ∙ c.if-not-is_padded.false, sym c.is_few.ensures ∙ c.if-not-is_few.false, sym (rw p at c.in_order.ensures) ∙ c.if-not-in_order.true)

pub returns-else-not-in_order : goal.returns-else-not-in_order
returns-else-not-in_order c =
    let p : c.args.z.outputs + c.args.z.divisors - c.args.z.outputs ≡ c.args.z.divisors = omega arith in
    rw (sym c.is_padded.ensures ∙ c.if-not-is_padded.false, sym c.is_few.ensures ∙ c.if-not-is_few.false, sym (rw p at c.in_order.ensures) ∙ c.if-not-in_order.false)
