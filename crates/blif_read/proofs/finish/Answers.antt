-- `blif_read::finish` meets its contract: what is built is judged by the rules. Assumes nothing.
use mathlib.Core.Path.{sym, ◌∙◌}
use borrow.Author.Rules.{rules}
use Rattle.network.proofs.Handing.{shape_of}
use Rattle.blif_read.proofs.Telling.{ruled-told, unruled-told}
use Rattle.blif_read.proofs.finish.Goals as goal

pub returns-in_default : goal.returns-in_default
returns-in_default c bs p q o k r f t =
    unruled-told _ (shape_of c.build-network.result (search rules) (search rules)) (c.build-network.ensures bs p q o k r f t) _
    (sym c.judge-answer.ensures ∙ c.in_default.is) c.refuse.ensures

pub returns : goal.returns
returns c bs p q o k r f t =
    ruled-told _ (shape_of c.build-network.result (search rules) (search rules)) (c.build-network.ensures bs p q o k r f t)
    (sym c.judge-answer.ensures ∙ c.in-Accepted.is) c.hand.ensures
