-- `expression_accept::is_loose` meets its contract. Assumes nothing.
use borrow.Author.Rules.{rules}
use Rattle.expression.specs.Expression.{loose}
use Rattle.expression_accept.proofs.is_loose.Goals as goal

pub returns-then-not-contains : goal.returns-then-not-contains
unfolding loose
returns-then-not-contains c = search rules

pub returns-else-not-contains : goal.returns-else-not-contains
unfolding loose
returns-else-not-contains c = search rules
