-- `expression_accept::all_proper` meets its contract: what the chain answers. Assumes nothing.
use borrow.Author.Rules.{rules}
use borrow.Author.Tests.{tests}
use Rattle.sets.specs.Sets.{proper}
use Rattle.expression.proofs.Chains.{all-each}
use Rattle.expression_accept.proofs.all_proper.Goals as goal

pub returns : goal.returns
returns c = all-each proper c.all.new.self _ _ c.all.ensures.ran c.each.ensures (λ x b q k. search (rules, tests))
