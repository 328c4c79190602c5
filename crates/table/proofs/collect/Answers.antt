-- The answers of `table::collect`.
use mathlib.Core.Path.{◌≡◌, refl, sym, ◌∙◌, subst}
use Prim.Native.Nat.{ℕ}
use native.Mathlib.Omega.{arith}
use lib.ListN.{length}
use Rattle.expression.{specs.Words.Appends, proofs.Words.spare-length}
use Rattle.table.specs.Parts.{pick}
use Rattle.table.proofs.Picking.{pick-none, pick-skip, pick_put, pick-room}
use borrow.Author.Rules.{rules}
use Rattle.table.proofs.collect.Goals as goal

pub loop-i-init : goal.loop-i-init
loop-i-init c = (pick-none _ c.requires.source _ _, refl)

pub overflow_add-to : goal.overflow_add-to
overflow_add-to c =
    let r = pick-room _ c.requires.source c.loop-i.i (omega arith) c.loop-i.invariant.0 (sym c.is_marked.ensures ∙ c.if-is_marked.true) c.requires.fits in
    record { fits = omega (arith, spare-length c.args.out.now) }

pub loop-i-preserved : goal.loop-i-preserved
loop-i-preserved c =
    elim c.if-is_marked.branch [
      | goal.then-is_marked w ↦ rw (w.out-is, w.to-is) (
        pick_put _ c.requires.source c.loop-i.i (omega arith) c.loop-i.invariant.0 (sym c.is_marked.ensures ∙ w.if-is_marked.true) c.requires.fits
            w.cube_at.ensures w.put_cube.ensures,
        search rules,
      )
      | goal.else-is_marked w ↦ rw (w.out-is, w.to-is) (
        pick-skip _ c.requires.source c.loop-i.i (omega arith) c.loop-i.invariant.0 (sym c.is_marked.ensures ∙ w.if-is_marked.false),
        c.loop-i.invariant.1,
      )
    ]

pub returns : goal.returns
returns c =
    let a = c.args in
    let e : c.loop-i.i ≡ length a.marks.now = omega arith in
    subst (λ (k : ℕ). Appends a.out.now c.loop-i.out a.at (pick a.j a.words.now a.marks.now k) c.loop-i.to) e c.loop-i.invariant.0
