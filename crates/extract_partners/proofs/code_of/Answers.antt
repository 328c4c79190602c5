-- `extract_partners::code_of` meets its contract. Assumes nothing.
use borrow.Author.Rules.{rules}
use Rattle.extract_partners.specs.Table.{mixed}
use Rattle.extract_partners.proofs.{Coding.code-masks}
use Rattle.extract_partners.proofs.code_of.Goals as goal

pub returns : goal.returns
unfolding mixed
returns c = code-masks _ _ (search rules) (search rules)
