-- The answers of the next node.
use Rattle.std.proofs.Common.{rules, ◌≡◌, ap, length, ◌∷◌}
use Rattle.expression.specs.Words.{cubes_of}
use Rattle.network_nodes.specs.Nodes.{cut}
use Rattle.network_nodes.proofs.Cutting.{cut-none, cut-first}
use Rattle.network_nodes.proofs.NodesIterator.next.Goals as goal
use Rattle.network_nodes.proofs.NodesIterator.next.Goals.{After-part}

pub returns-in_err-n-clause-steps : goal.returns-in_err-n-clause-steps
returns-in_err-n-clause-steps c = let n = cut-none _ (cubes_of c.args.self.now.words.now) c.in_err-n.ensures.cases in rw c.from_residual.ensures (n, n)

first : (c : After-part)
    → cut c.args.self.now.counts.now (cubes_of c.args.self.now.words.now)
    ≡ cubes_of c.part.result.now ∷ cut c.in_ok-n.rest.now (cubes_of c.part-self.result.now)
first c = cut-first _ _ c.in_ok-n.ensures.cases.0 c.number.ensures c.part.ensures.0 c.part-self.ensures.0

pub returns-clause-steps : goal.returns-clause-steps
returns-clause-steps c = first (goal.at.returns-clause-steps c).After-part

pub returns-clause-goes : goal.returns-clause-goes
returns-clause-goes c = let e = ap length (first (goal.at.returns-clause-goes c).After-part) in search (rules, e)
