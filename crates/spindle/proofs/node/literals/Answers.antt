-- `node::literals` meets its contract: the literals of the part that holds node i. Assumes nothing.
use Rattle.std.proofs.Common.{ap, ◌∙◌}
use Rattle.expression.specs.{Expression.literals_of, Answers.capped}
use Rattle.spindle.proofs.node.literals.Goals as goal

pub returns : goal.returns
returns c = c.literals.ensures ∙ ap (λ f. capped (literals_of f)) c.node.ensures.0
