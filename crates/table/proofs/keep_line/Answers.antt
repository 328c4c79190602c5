-- `table::keep_line` meets its contract: the cube and the mask are put after those kept. Assumes nothing.
use native.Mathlib.Omega.{arith}
use Rattle.table.proofs.{Adding.stands_plain, Adding.stands-kept}
use Rattle.table.proofs.keep_line.Goals as goal

pub returns-then-rows-eq0 : goal.returns-then-rows-eq0
returns-then-rows-eq0 c = λ t l h e k q. stands_plain h l _ q c.if-rows-eq0.true

pub returns : goal.returns
returns c =
    λ t l h e k q. stands-kept h l _ _ q c.if-rows-eq0.false (omega (arith, c.requires.roomy.kept, c.requires.roomy.places))
    (omega (arith, c.requires.roomy.kept, c.requires.roomy.masks)) e k
    c.put_cube.ensures
