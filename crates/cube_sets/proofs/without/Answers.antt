-- `cube_sets::without` meets its contract. Assumes nothing.
use borrow.Author.Rules.{rules}
use Rattle.sets.proofs.Literals.{literals-without}
use Rattle.cube_sets.proofs.without.Goals as goal

pub returns : goal.returns
returns c = literals-without 64 _ _ _ _ (search rules) (search rules)
