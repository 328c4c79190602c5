-- `network_rules::all_expressions` meets its contract: a chain over the nodes in use. Assumes nothing.
use Rattle.std.proofs.Common.{◌∙◌, ◌+◌, sym, ap, rules}
use borrow.Author.Tests.{tests}
use Rattle.sets.{specs.Lists.all, proofs.Chains.all-chain}
use Rattle.expression.specs.Expression.{expression}
use Rattle.network_nodes.proofs.Chains.{front-list}
use Rattle.network.proofs.Holding.{nodes-held}
use Rattle.network_rules.proofs.all_expressions.Goals as goal

pub returns : goal.returns
returns c =
    let n = c.args.n.now in
    all-chain expression c.all.new.self _ _ c.all.ensures.ran (front-list (n.outputs + n.divisors) c.take.ensures.source c.each.ensures c.take.ensures.count)
    (λ x b q k. search (rules, tests))
    ∙ ap (all expression) (sym (nodes-held n))
