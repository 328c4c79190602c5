-- The answers of `expression::clear`.
use Prim.Native.Nat.{◌-◌, min}
use mathlib.Core.Path.{◌≡◌, refl, ◌∙◌, ap, subst}
use mathlib.Core.List.{[]}
use native.Mathlib.Omega.{arith}
use lib.ListN.{length, replicate}
use Rattle.expression.specs.Words.{cubes_of, Put}
use Rattle.expression.proofs.Placing.{placed-none, placed-as, cleared-next}
use Rattle.expression.proofs.clear.Goals as goal
use Rattle.expression.proofs.clear.Goals.{At-loop-i}

-- the end of the places, held to what there is
stop : (l : At-loop-i) → l.min-stop.result ≡ min l.args.e (length (cubes_of l.args.s.now))
stop l = l.min-stop.ensures ∙ ap (min _) l.number.ensures

pub loop-i-init : goal.loop-i-init
loop-i-init c =
    let a = c.args.a in
    let z : 0 ≡ a - a = omega arith in
    (omega arith, omega arith, refl, placed-as (ap (λ n. replicate n []) z) (placed-none _ _))

pub loop-i-preserved : goal.loop-i-preserved
loop-i-preserved c =
    let e = c.empty.ensures in (
      omega (arith, c.loop-i.invariant.0),
      omega (arith, c.loop-i.invariant.0),
      c.put_cube.auto.s ∙ c.loop-i.invariant.2,
      cleared-next c.loop-i.invariant.0 (omega (arith, stop (goal.at.loop-i-preserved c).At-loop-i)) c.loop-i.invariant.3 (subst (Put _ _ _) e c.put_cube.ensures),
    )

pub returns : goal.returns
returns c =
    let a = c.args.a in
    let z : c.loop-i.i - a ≡ min c.args.e (length (cubes_of c.args.s.now)) - a = omega (arith, stop (goal.at.returns c).At-loop-i, c.loop-i.invariant.0, c.loop-i.invariant.1) in
    placed-as (ap (λ n. replicate n []) z) c.loop-i.invariant.3
