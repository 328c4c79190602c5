-- The answers of `expression_survey::reaches`.
use Rattle.std.proofs.Common.{rules}
use borrow.Author.Tests.{tests}
use Rattle.sets.specs.Sets.{reads_below}
use Rattle.expression.proofs.Chains.{all-each}
use Rattle.expression_survey.proofs.reaches.Goals as goal

pub returns : goal.returns
returns c = all-each (reads_below c.args.v) c.all.new.self _ _ c.all.ensures.ran c.each.ensures (λ x b q k. search (rules, tests))
