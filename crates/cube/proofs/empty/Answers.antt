-- `cube::empty` meets its contract: two masks of 0 hold no literal. Assumes nothing.
use Rattle.sets.proofs.Literals.{literals-none}
use Rattle.cube.proofs.empty.Goals as goal

pub returns : goal.returns
returns c = literals-none 64
