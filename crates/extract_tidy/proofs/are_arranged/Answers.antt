-- `extract_tidy::are_arranged` meets its contract: the limits, and then the order of each node that there is a count for. Assumes nothing.
use Rattle.std.proofs.Common.{rules, sym, ◌∙◌, true, false}
use borrow.Author.Tests.{tests}
use Rattle.sets.proofs.Chains.{all-chain}
use Rattle.expression.specs.Expression.{ordered}
use Rattle.network_nodes.proofs.Chains.{front-list}
use Rattle.extract_tidy.proofs.Arranged.{arranged-as}
use Rattle.extract_tidy.proofs.are_arranged.Goals as goal

pub returns-then-not-is_within : goal.returns-then-not-is_within
returns-then-not-is_within c = arranged-as _ false (sym c.is_within.ensures ∙ c.if-not-is_within.true)

pub returns : goal.returns
returns c =
    all-chain ordered c.all.new.self _ _ c.all.ensures.ran (front-list _ c.take.ensures.source c.each.ensures c.take.ensures.count) (λ x b q k. search (rules, tests))
    ∙ arranged-as _ true (sym c.is_within.ensures ∙ c.if-not-is_within.false)
