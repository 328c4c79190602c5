-- `extract_choice::offer` meets its contract: what weighs less is not picked, and a step that is taken is. Assumes nothing.
use mathlib.Core.Path.{◌≡◌, refl, sym, ap, ap₂, ◌∙◌}
use lib.Signed.{lt_z}
use mir.Syntax.{w32}
use mir.Val.{to_z, of_z}
use mir.Facts.{to_z-of_z}
use Rattle.extract_divisor.specs.{Divisor.weighed_of, declared.Step.Step}
use Rattle.extract_choice.specs.Parts.{offered, picked}
use Rattle.extract_choice.proofs.Weights.{cost-few, picked-less, picked-taken, offered-step}
use borrow.Author.Rules.{rules}
use Rattle.extract_choice.proofs.offer.Goals as goal
use Rattle.extract_choice.proofs.offer.Goals.{After-weight_of-weight}

-- the weight that is read is what is offered
weight : (c : After-weight_of-weight) → let a = c.args in to_z w32 (of_z w32 c.weight_of-weight.result) ≡ (offered a.key a.gain).weight
weight c = to_z-of_z {w = w32} {z = c.weight_of-weight.result} (search rules) ∙ rw (← c.cost.ensures) c.weight_of-weight.ensures

pub weight_of-weight-requires : goal.weight_of-weight-requires
weight_of-weight-requires c = rw c.cost.ensures (cost-few _).1

pub returns-then-weight-held : goal.returns-then-weight-held
returns-then-weight-held c =
    let a = c.args in
    sym (picked-less (weighed_of a.held) (offered a.key a.gain)
    (ap₂ lt_z (sym (weight (goal.at.returns-then-weight-held c).After-weight_of-weight)) (sym (to_z-of_z {w = w32} {z = a.held.weight} (search rules))) ∙ c.if-weight-held.true))

pub returns : goal.returns
returns c =
    let a = c.args in
    let s : Step = record { divisor = c.divisor_of.result; weight = to_z w32 (of_z w32 c.weight_of-weight.result); uses = 0 } in
    ap weighed_of c.better_of.ensures ∙ picked-taken a.held s
    ∙ ap (picked (weighed_of a.held)) (offered-step a.key a.gain s c.divisor_of.ensures (weight (goal.at.returns c).After-weight_of-weight) refl)
