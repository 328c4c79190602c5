-- The answers of `extract_partners::is_short`.
use Prim.Native.Nat.{◌≤◌}
use mathlib.Core.Path.{◌≡◌}
use native.Mathlib.Omega.{arith}
use Rattle.expression.specs.Words.{cubes_of}
use Rattle.extract_partners.specs.Removal.{removals_of}
use Rattle.extract_partners.proofs.Short.{removals-most, removals-none, removals-first, short-many, short-long, short-rule}
use Rattle.extract_partners.proofs.is_short.Goals as goal
use Rattle.extract_partners.proofs.is_short.Goals.{After-removals_of-n}

pub returns-then-k-gt-MOST_REMOVALS : goal.returns-then-k-gt-MOST_REMOVALS
returns-then-k-gt-MOST_REMOVALS c = short-many _ (omega (arith, c.number-k.ensures))

few : (c : After-removals_of-n) → c.removals_of-n.result ≤ 8256
few c = rw c.removals_of-n.ensures (removals-most c.in-Some.c)

pub returns-then-n-gt-MOST_REMOVALS : goal.returns-then-n-gt-MOST_REMOVALS
returns-then-n-gt-MOST_REMOVALS c =
    short-long _ (omega (arith, c.number-k.ensures))
    (omega (arith, c.removals_of-n.ensures, c.loop-c.invariant.0, removals-first c.in-Some.ensures.steps))

pub loop-c-preserved : goal.loop-c-preserved
loop-c-preserved c = (
  omega (arith, c.removals_of-n.ensures, c.loop-c.invariant.0, removals-first c.in-Some.ensures.steps),
  omega arith,
)

pub returns : goal.returns
returns c =
    let f = cubes_of c.args.f.now in
    let e : c.loop-c.n ≡ removals_of f = omega (arith, c.loop-c.invariant.0, removals-none c.in-None.ensures.steps.0) in
    rw (e, c.number-k.ensures) (short-rule f (omega (arith, c.number-k.ensures)) (omega (arith, c.loop-c.invariant.1)))

pub overflow_add-n : goal.overflow_add-n
overflow_add-n c = omega (arith, few c)
