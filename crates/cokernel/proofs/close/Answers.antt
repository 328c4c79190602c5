-- The answers of `cokernel::close`.
use Prim.Native.Nat.{◌+◌, ◌-◌}
use mathlib.Core.Path.{◌≡◌, sym, ◌∙◌}
use native.Mathlib.Omega.{arith}
use lib.ListN.{drop, length-drop}
use Rattle.sets.{specs.Sets.sub, proofs.Lists.keep-length}
use Rattle.cube.specs.Cube.{lits}
use Rattle.expression.{specs.Words.cubes_of, proofs.Words.cubes-few}
use Rattle.cokernel.proofs.Steps.{narrowed-number, closed_none, closed-more, closed_same, closed_all}
use Rattle.cokernel.proofs.close.Goals as goal

pub loop-i-init : goal.loop-i-init
loop-i-init c = closed_none _ _ _ c.number-i.ensures

pub loop-i-preserved-then-contains : goal.loop-i-preserved-then-contains
loop-i-preserved-then-contains c =
    let back : c.loop-i.i ≡ c.loop-i.i - 1 + 1 = omega arith in
    closed-more _ _ (c.loop-i.i - 1) _ c.loop-i.m (omega arith) (rw back at c.loop-i.invariant) _ c.cube_at-d.ensures
    (sym c.contains.ensures ∙ c.if-contains.true) _ c.narrowed.ensures

pub loop-i-preserved : goal.loop-i-preserved
loop-i-preserved c =
    let back : c.loop-i.i ≡ c.loop-i.i - 1 + 1 = omega arith in
    closed_same _ _ (c.loop-i.i - 1) _ c.loop-i.m (omega arith) (rw back at c.loop-i.invariant) _ c.cube_at-d.ensures
    (sym c.contains.ensures ∙ c.if-contains.false)

pub overflow_add-number : goal.overflow_add-number
overflow_add-number c =
    let f = cubes_of c.args.f.now in
    let later = drop c.loop-i.i f in
    omega (arith, narrowed-number _ c.loop-i.m _ c.loop-i.invariant, keep-length (sub (lits c.args.c)) later, length-drop c.loop-i.i f, cubes-few c.args.f.now)

pub returns : goal.returns
returns c =
    let none : c.loop-i.i ≡ 0 = omega arith in
    rw c.unwrap_or.ensures (closed_all _ _ _ c.loop-i.m _ c.empty.ensures (rw none at c.loop-i.invariant))
