-- `cube_sets::is_proper` meets its contract. Assumes nothing.
use borrow.Author.Rules.{rules}
use Rattle.sets.proofs.Literals.{proper-literals}
use Rattle.cube_sets.proofs.is_proper.Goals as goal

pub returns : goal.returns
returns c = proper-literals 64 _ _ (search rules) (search rules)
