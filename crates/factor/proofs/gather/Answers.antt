-- The answers of `factor::gather`.
use mathlib.Core.Path.{◌≡◌, sym, ◌∙◌, ap, ap₂}
use mathlib.Core.List.{List, [], ◌∷◌}
use Prim.Native.Nat.{ℕ, ◌-◌, ◌<◌}
use native.Mathlib.Omega.{arith}
use lib.ListN.{length, get_or, set}
use Rattle.sets.specs.Sets.{mem, without}
use Rattle.cube.specs.Cube.{lits, joined}
use Rattle.expression.{specs.Words.cubes_of, proofs.Words.same-room}
use Rattle.factor.proofs.Parting.{parting-all, parting-yes, parting-no, back_at, joined-one}
use Rattle.factor.proofs.gather.Goals as goal
use Rattle.factor.proofs.gather.Goals.{then-has, else-has}

pub loop-i-preserved : goal.loop-i-preserved
loop-i-preserved c =
    let l = c.args.l.0 in
    let i = c.loop-i.i in
    let m = c.loop-i.m in
    let inv = c.loop-i.invariant in
    -- the cube at the place that the loop has come to, as it was, and whether it has l
    let x : List ℕ = get_or (cubes_of c.args.w.now) i [] in
    let present : lits c.cube_at-c.result ≡ x = c.cube_at-c.ensures ∙ back_at (cubes_of c.args.w.now) (cubes_of c.loop-i.w) i inv.back [] in
    let tested : c.has.result ≡ mem l x = c.has.ensures ∙ ap (mem l) present in
    -- the cube of l alone
    let alone : lits c.with-one.result ≡ l ∷ [] = c.with-one.ensures ∙ ap (joined l) c.empty.ensures ∙ joined-one l c.requires.0 in
    let first : i < length (cubes_of c.args.w.now) = omega (arith, c.number-i-end.ensures) in
    let second : i < length (cubes_of c.loop-i.w) = omega (arith, same-room c.loop-i.w c.args.w.now c.loop-i.auto.w) in
    let third : i < length (cubes_of c.loop-i.spare) = omega (arith, c.requires.1, same-room c.loop-i.spare c.args.spare.now c.loop-i.auto.spare) in
    elim c.if-has.branch [
      | then-has w ↦
          let q : lits w.without.result ≡ without x (l ∷ []) = w.without.ensures ∙ ap₂ without present alone in
          let p : cubes_of w.put_cube.new.s ≡ set (cubes_of c.loop-i.w) m (without x (l ∷ [])) = w.put_cube.ensures.cubes ∙ ap (set _ m) q in
          rw (w.w-is, w.spare-is, w.m-is, p) (parting-yes inv first (sym tested ∙ w.if-has.true) second)
      | else-has w ↦
          let p : cubes_of w.put_cube-else-has.new.s ≡ set (cubes_of c.loop-i.spare) (i - m) x =
          w.put_cube-else-has.ensures.cubes ∙ ap (set _ (i - m)) present in
          rw (w.w-is, w.spare-is, w.m-is, p) (parting-no inv first (sym tested ∙ w.if-has.false) third)
    ]

pub returns : goal.returns
returns c = parting-all c.loop-i.i (omega (arith, c.number-i-end.ensures)) c.loop-i.invariant
