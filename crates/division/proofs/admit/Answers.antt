-- `division::admit` meets its contract: the parts in their order. Assumes nothing.
use mathlib.Core.Path.{◌≡◌, ◌∙◌, ap₂}
use Rattle.expression.specs.Answers.{refusal, refusal_of}
use Rattle.division.specs.Answers.{either}
use Rattle.division.proofs.{Refusing.admitted-early, Refusing.admitted-late}
use Rattle.division.proofs.admit.Goals as goal
use Rattle.division.proofs.admit.Goals.{After-lesser-both}

-- the refusal of either
first : (l : After-lesser-both) → refusal_of l.lesser-both.result ≡ either (refusal l.args.f.now) (refusal l.args.d.now)
first l = l.lesser-both.ensures ∙ ap₂ either l.accept-a.ensures l.accept-b.ensures

pub returns-in_default : goal.returns-in_default
returns-in_default c = admitted-early c.args.f.now c.args.d.now _ (first (goal.at.returns-in_default c).After-lesser-both) _ c.in_default.is

pub returns : goal.returns
returns c =
    admitted-late c.args.f.now c.args.d.now _ (first (goal.at.returns c).After-lesser-both) c.accept_divisor.result c.in-Accepted.is c.accept_divisor.ensures
