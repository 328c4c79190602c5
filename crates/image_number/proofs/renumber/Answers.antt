-- `image_number::renumber` meets its contract: a network by the rules is built anew along its listing. Assumes nothing.
use mathlib.Core.Path.{◌≡◌, sym, ◌∙◌, subst}
use mathlib.Core.Bool.{true}
use borrow.Author.Rules.{rules as steps}
use Rattle.network.{specs.Held.net_of, specs.Held.rules, specs.Handed.Holds, proofs.Ruling.accepted-rules, proofs.Ruling.refused-rules}
use Rattle.network.proofs.{Handing.shape_of, Telling.told-gives, Telling.told-refuses}
use Rattle.image_laws.specs.Renumber.{renumbered}
use Rattle.image_number.proofs.{Renumbering.rules-order}
use Rattle.image_number.proofs.renumber.Goals as goal
use Rattle.image_number.proofs.renumber.Goals.{In-Accepted}

pub returns-in_default : goal.returns-in_default
returns-in_default c =
    told-refuses _ _ _ (refused-rules _ _ (sym c.judge.ensures ∙ c.in_default.is)) c.refuse.ensures

lawful : (c : In-Accepted) → rules c.args.n ≡ true
lawful c = accepted-rules _ (sym c.judge.ensures ∙ c.in-Accepted.is)

pub build-requires : goal.build-requires
build-requires c =
    let h = lawful (goal.at.build-requires c).In-Accepted in
    record { lawful = h; shape = shape_of _ (search steps) (search steps); listed = rules-order _ h _ c.listing-l.ensures }

pub returns : goal.returns
returns c =
    let m = renumbered (net_of c.args.n) in
    told-gives _ m _ (lawful (goal.at.returns c).In-Accepted) (c.hand.ensures.0, subst (λ p. Holds p m) (sym c.hand.ensures.1) c.build.ensures)
