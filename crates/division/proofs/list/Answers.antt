-- The answers of `division::list`.
use native.Mathlib.Omega.{arith}
use Rattle.std.proofs.lemmas.List.{map-append}
use Rattle.cube.specs.Cube.{lits}
use Rattle.expression.proofs.{Words.cubes-few, Placing.appends-put}
use Rattle.division.proofs.list.Goals as goal

pub overflow_add-kept : goal.overflow_add-kept
overflow_add-kept g c =
    let h = c.loop-c.invariant in
    let p = c.in-Some.ensures.goes.on h.1 in
    omega (arith, h.2, p.2, cubes-few c.args.to.now)

pub loop-c-preserved : goal.loop-c-preserved
loop-c-preserved g c =
    let h = c.loop-c.invariant in
    let p = c.in-Some.ensures.goes.on h.1 in (
      rw (map-append lits c.loop-c.yielded _) (appends-put h.0 (omega (arith, h.2, p.2)) c.put_cube.ensures),
      p.1,
      omega (arith, h.2, p.2),
    )
