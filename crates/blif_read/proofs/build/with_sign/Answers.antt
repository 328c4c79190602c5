-- `blif_read::build::with_sign` meets its contract: `1` joins the plain literal, `0` the negated. Assumes nothing.
use mathlib.Core.Path.{◌∙◌}
use native.Mathlib.Omega.{arith}
use Rattle.cube.specs.Cube.{lits}
use Rattle.table_rows.proofs.Cubing.{placed-plain, placed-negated, placed-either}
use Rattle.blif_read.proofs.build.with_sign.Goals as goal

pub returns-in-49 : goal.returns-in-49
returns-in-49 c h = let a = c.args in
    c.with.ensures ∙ placed-plain a.v a.b c.plain.result.0 (lits a.c) h c.in-49.is c.plain.ensures

pub returns-in-48 : goal.returns-in-48
returns-in-48 c h = let a = c.args in
    c.with-in-48.ensures ∙ placed-negated a.v a.b c.negated.result.0 (lits a.c) h (omega (arith, c.in-48.is)) c.in-48.is c.negated.ensures

pub returns-in_default : goal.returns-in_default
returns-in_default c h = let a = c.args in placed-either a.v a.b (lits a.c) (omega arith) (omega arith)
