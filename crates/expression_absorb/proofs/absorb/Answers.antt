-- The answers of `expression_absorb::absorb`.
use mathlib.Core.Path.{refl, sym, ◌∙◌}
use native.Mathlib.Omega.{arith}
use Rattle.expression.proofs.Words.{cubes-asc}
use Rattle.expression_absorb.proofs.Compacting.{stands-first, stands-number, stands-end, turn-dropped, turn-kept}
use Rattle.expression_absorb.proofs.absorb.Goals as goal

pub next-init : goal.next-init
next-init c = (stands-first _ (cubes-asc _), refl)

pub next-preserved-then-absorbs : goal.next-preserved-then-absorbs
next-preserved-then-absorbs c =
    let h = c.next.invariant in
    let drops = sym c.absorbs.ensures ∙ c.if-absorbs.true in
    (turn-dropped h.0 (omega arith) _ c.cube_at-c.ensures c.loop-j.j _ (omega arith) c.cube_at.ensures drops, h.1)

pub next-preserved : goal.next-preserved
next-preserved c =
    let h = c.next.invariant in
    let p = c.put_cube.ensures in
    (rw p.cubes (turn-kept h.0 (omega arith) _ c.cube_at-c.ensures (λ j l. c.loop-j.invariant j (omega arith))), p.spare ∙ h.1)

pub returns-clause-number : goal.returns-clause-number
returns-clause-number c = stands-number c.next.invariant.0 (omega arith)

pub returns-clause-cubes : goal.returns-clause-cubes
returns-clause-cubes c = record { cubes = stands-end c.next.invariant.0 (omega arith); spare = c.next.invariant.1 }
