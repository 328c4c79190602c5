-- The answers of `expression::copy_whole`.
use Prim.Native.Nat.{◌-◌, min}
use mathlib.Core.Path.{◌≡◌, refl, sym, ◌∙◌, ap, ap₂}
use native.Mathlib.Omega.{arith}
use lib.ListN.{length, take}
use Rattle.expression.specs.Words.{cubes_of}
use Rattle.expression.proofs.{Words.cubes-few}
use Rattle.expression.proofs.Placing.{placed-none, placed-as, copied_next, copied_all}
use Rattle.expression.proofs.copy_whole.Goals as goal
use Rattle.expression.proofs.copy_whole.Goals.{At-loop-i}

-- how many there are places for
room : (l : At-loop-i) → l.number-room.result ≡ length (cubes_of l.args.to.now)
room l = l.number-room.ensures

number : (l : At-loop-i)
    → l.min-n.result ≡ min (length (cubes_of l.args.s.now)) (length (cubes_of l.args.to.now) - l.args.at)
number l = l.min-n.ensures ∙ ap₂ (λ x y. min x (y - l.args.at)) l.number.ensures (room l)

pub returns-then-room-at : goal.returns-then-room-at
returns-then-room-at c =
    let z : length (cubes_of c.args.to.now) - c.args.at ≡ 0 = omega (arith, c.if-room-at.true, c.number-room.ensures) in
    placed-as (ap (λ n. take n (cubes_of c.args.s.now)) (sym z)) (placed-none _ _)

pub loop-i-init : goal.loop-i-init
loop-i-init c = (omega arith, refl, placed-none _ _)

pub overflow_add-at : goal.overflow_add-at
overflow_add-at c =
    record { fits = omega (arith, number (goal.at.overflow_add-at c).At-loop-i, room (goal.at.overflow_add-at c).At-loop-i, cubes-few c.args.to.now, c.if-room-at.false) }

pub loop-i-preserved : goal.loop-i-preserved
loop-i-preserved c = (
  omega arith,
  c.put_cube.auto.s ∙ c.loop-i.invariant.1,
  copied_next (cubes_of c.args.s.now) (omega (arith, number (goal.at.loop-i-preserved c).At-loop-i)) (omega (arith, number (goal.at.loop-i-preserved c).At-loop-i)) c.loop-i.invariant.2 c.cube_at.ensures
      c.put_cube.ensures,
)

pub returns : goal.returns
returns c =
    let f = cubes_of c.args.s.now in
    let k = length (cubes_of c.args.to.now) - c.args.at in
    placed-as (copied_all f c.loop-i.i k (omega (arith, number (goal.at.returns c).At-loop-i, c.loop-i.invariant.0))) c.loop-i.invariant.2
