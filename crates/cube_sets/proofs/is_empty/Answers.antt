-- `cube_sets::is_empty` meets its contract. Assumes nothing.
use borrow.Author.Rules.{rules}
use Rattle.sets.proofs.Literals.{nil-literals}
use Rattle.cube_sets.proofs.is_empty.Goals as goal

pub returns : goal.returns
returns c = nil-literals 64 _ _ (search rules) (search rules)
