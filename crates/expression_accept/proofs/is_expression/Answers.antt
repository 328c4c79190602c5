-- `expression_accept::is_expression` meets its contract: what words hold is ascending. Assumes nothing.
use borrow.Author.Rules.{rules}
use Rattle.expression_accept.proofs.Accepting.{cubes-proper}
use Rattle.expression_accept.proofs.is_expression.Goals as goal

pub returns-then-all_proper : goal.returns-then-all_proper
returns-then-all_proper c = rw cubes-proper (search rules)

pub returns-else-all_proper : goal.returns-else-all_proper
returns-else-all_proper c = rw cubes-proper (search rules)
