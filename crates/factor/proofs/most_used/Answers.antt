-- The answers of `factor::most_used`.
use mathlib.Core.Path.{◌≡◌, sym, ◌∙◌, ap}
use Prim.Native.Nat.{◌+◌, ◌-◌, ◌*◌}
use native.Mathlib.Omega.{arith}
use Rattle.cube.specs.Cube.{width}
use Rattle.expression.specs.Words.{cubes_of}
use Rattle.factor.specs.Form.{used_in, most as most_from}
use Rattle.factor.proofs.Choosing.{most-taken, most-left, most-end}
use Rattle.factor.proofs.most_used.Goals as goal
use Rattle.factor.proofs.most_used.Goals.{then-most-n, else-most-n}

pub loop-l-preserved : goal.loop-l-preserved
loop-l-preserved c =
    let f = cubes_of c.args.f.now in
    let l = c.loop-l.l in
    let b = c.loop-l.best in
    let h = c.loop-l.invariant in
    let n : c.uses-n.result ≡ used_in l f = c.uses-n.ensures in
    elim c.if-most-n.branch [
      | then-most-n w ↦ (
        w.most-is ∙ n ∙ ap (λ z. used_in z f) (sym w.best-is),
        ap (most_from (2 * width - (l + 1)) f (l + 1)) w.best-is
            ∙ sym (most-taken f (2 * width) l b c.loop-l-test.true (omega (arith, w.if-most-n.true, h.0, n))) ∙ h.1,
      )
      | else-most-n w ↦ (
        w.most-is ∙ h.0 ∙ ap (λ z. used_in z f) (sym w.best-is),
        ap (most_from (2 * width - (l + 1)) f (l + 1)) w.best-is
            ∙ sym (most-left f (2 * width) l b c.loop-l-test.true (omega (arith, w.if-most-n.false, h.0, n))) ∙ h.1,
      )
    ]

pub returns : goal.returns
returns c =
    sym (most-end (cubes_of c.args.f.now) (2 * width) c.loop-l.l c.loop-l.best c.loop-l-test.false) ∙ c.loop-l.invariant.1
