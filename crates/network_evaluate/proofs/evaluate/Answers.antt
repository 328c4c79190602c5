-- `network_evaluate::evaluate` meets its contract: it answers by the rules, and then as the definition. Assumes nothing.
use mathlib.Core.Path.{◌≡◌, sym, ◌∙◌}
use mathlib.Core.Bool.{true}
use Rattle.network.{specs.Held.rules, proofs.Ruling.accepted-rules, proofs.Ruling.refused-rules}
use Rattle.network_evaluate.proofs.Answering.{evaluated-no, evaluated-is}
use Rattle.network_evaluate.proofs.evaluate.Goals as goal
use Rattle.network_evaluate.proofs.evaluate.Goals.{In-Accepted}

kept : (c : In-Accepted) → rules c.args.n ≡ true
kept c = accepted-rules _ (sym c.judge-j.ensures ∙ c.in-Accepted.is)

pub returns-in_default : goal.returns-in_default
returns-in_default c =
    evaluated-no c.args.n c.args.setting (refused-rules _ _ (sym c.judge-j.ensures ∙ c.in_default.is))

pub value-requires : goal.value-requires
value-requires c = kept (goal.at.value-requires c).In-Accepted

pub returns : goal.returns
returns c =
    evaluated-is c.args.n c.args.setting _ (kept (goal.at.returns c).In-Accepted) c.value.ensures
