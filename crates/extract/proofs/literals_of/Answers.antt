-- `extract::literals_of` meets its contract: the literals of all nodes' cubes at once. Assumes nothing.
use Prim.Native.Nat.{◌+◌}
use mathlib.Core.Path.{sym, ◌∙◌, ap}
use lib.ListN.{length, take}
use borrow.Author.Rules.{rules}
use Rattle.sets.specs.Lists.{total}
use Rattle.expression.specs.{Words.cubes_of, Expression.literals_of, Answers.capped}
use Rattle.network_nodes.proofs.Cutting.{cut-total}
use Rattle.network.{proofs.Handing.shape_of, proofs.Holding.nodes-held, proofs.Limits.rules-literals}
use Rattle.extract.proofs.literals_of.Goals as goal
use Rattle.extract.proofs.literals_of.Goals.{Start}

pub returns : goal.returns
returns c =
    let n = c.args.n.now in
    c.literals.ensures
    ∙ ap capped (ap literals_of c.front.ensures.0 ∙ sym (cut-total length (take (n.outputs + n.divisors) n.counts) (cubes_of n.words))
    ∙ ap (total literals_of) (sym (nodes-held n)))
    ∙ rules-literals n (shape_of _ (search rules) (search rules)) c.requires.lawful
