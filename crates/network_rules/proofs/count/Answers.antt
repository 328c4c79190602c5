-- `network_rules::count` meets its contract: the literals of all nodes' cubes at once. Assumes nothing.
use mathlib.Core.Path.{sym, ◌∙◌, ap}
use lib.ListN.{length}
use Rattle.sets.specs.Lists.{total}
use Rattle.expression.specs.{Words.cubes_of, Expression.literals_of, Answers.capped}
use Rattle.network_nodes.proofs.Cutting.{cut-total}
use Rattle.network.{specs.Held.used, proofs.Holding.nodes-held}
use Rattle.network_rules.proofs.count.Goals as goal

pub returns : goal.returns
returns c =
    let n = c.args.n.now in
    c.literals.ensures
    ∙ ap capped (ap literals_of c.front.ensures.0 ∙ sym (cut-total length (used n) (cubes_of n.words)) ∙ ap (total literals_of) (sym (nodes-held n)))
