-- `cube_sets::common` meets its contract. Assumes nothing.
use Rattle.sets.proofs.Literals.{literals-meet}
use Rattle.cube_sets.proofs.common.Goals as goal

pub returns : goal.returns
returns c = literals-meet 64 _ _ _ _
