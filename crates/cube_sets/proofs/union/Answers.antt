-- `cube_sets::union` meets its contract. Assumes nothing.
use Rattle.sets.proofs.Literals.{literals-union}
use Rattle.cube_sets.proofs.union.Goals as goal

pub returns : goal.returns
returns c = literals-union 64 _ _ _ _
