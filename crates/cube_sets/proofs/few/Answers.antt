-- `cube_sets::few` meets its contract: where no variable is there both ways, the ones of the two masks are told together. Assumes nothing.
use borrow.Author.Rules.{rules}
use native.Mathlib.Omega.{arith}
use Rattle.cube.specs.Cube.{width}
use Rattle.cube_sets.proofs.Ones.{ones_none, ones-less, apart-length}
use Rattle.cube_sets.proofs.few.Goals as goal

-- where no variable is there both ways, the literals are the ones of the two masks together
pub returns-then-x-eq0 : goal.returns-then-x-eq0
returns-then-x-eq0 c =
    let told = apart-length width c.args.c.plain c.args.c.negated (search rules) (search rules) (omega arith) in
    omega (arith, told, ones_none c.if-x-eq0.true)

pub returns-then-y-eq0 : goal.returns-then-y-eq0
returns-then-y-eq0 c =
    let told = apart-length width c.args.c.plain c.args.c.negated (search rules) (search rules) (omega arith) in
    omega (arith, told, ones-less _ c.if-x-eq0.false, ones_none c.if-y-eq0.true)

pub returns-then-y-eq0-2 : goal.returns-then-y-eq0-2
returns-then-y-eq0-2 c =
    let told = apart-length width c.args.c.plain c.args.c.negated (search rules) (search rules) (omega arith) in
    omega (arith, told, ones-less _ c.if-x-eq0.false, ones-less _ c.if-y-eq0.false, ones_none c.if-y-eq0-2.true)

pub returns : goal.returns
returns c =
    let told = apart-length width c.args.c.plain c.args.c.negated (search rules) (search rules) (omega arith) in
    omega (arith, told, ones-less _ c.if-x-eq0.false, ones-less _ c.if-y-eq0.false, ones-less _ c.if-y-eq0-2.false)
