-- The answers of `expression_survey::find`: by what the comparison with the middle cube tells.
use mathlib.Core.Path.{refl}
use native.Mathlib.Omega.{arith}
use Rattle.cube.proofs.Verdict.{told_of_lem}
use Rattle.expression_survey.proofs.Searching.{go-up, go-down, stop-at, stop-none}
use Rattle.expression_survey.proofs.find.Goals as goal

pub loop-low-preserved-in-Less : goal.loop-low-preserved-in-Less
loop-low-preserved-in-Less c =
    let t = told_of_lem c.compare-o.result _ _ _ _ c.compare-o.ensures c.cube_at.ensures refl in
    (go-up _ _ _ _ c.loop-low.invariant.0 c.loop-low-test.true (t.first c.in-Less.is), c.loop-low.invariant.1)

pub returns-in-Equal : goal.returns-in-Equal
returns-in-Equal c =
    let t = told_of_lem c.compare-o.result _ _ _ _ c.compare-o.ensures c.cube_at.ensures refl in
    stop-at _ _ _ _ c.loop-low.invariant.0 c.loop-low-test.true (t.alike c.in-Equal.is)

pub loop-low-preserved : goal.loop-low-preserved
loop-low-preserved c =
    let t = told_of_lem c.compare-o.result _ _ _ _ c.compare-o.ensures c.cube_at.ensures refl in
    (go-down _ _ _ _ c.loop-low.invariant.0 c.loop-low-test.true (t.last c.in-Greater.is), omega arith)

pub returns : goal.returns
returns c = stop-none _ _ _ _ c.loop-low.invariant.0 c.loop-low-test.false
