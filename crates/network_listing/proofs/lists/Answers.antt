-- `network_listing::lists` meets its contract: the limits, then the literals of all nodes. Assumes nothing.
use mathlib.Core.Path.{sym, ◌∙◌}
use borrow.Author.Rules.{rules}
use Rattle.network.{specs.Parts.Limited, proofs.Handing.shape_of, proofs.Limits.sized-out}
use Rattle.network_listing.proofs.Answering.{listable-no, listable-as}
use Rattle.network_listing.proofs.lists.Goals as goal
use Rattle.network_listing.proofs.lists.Goals.{Then-is_within}

small : (c : Then-is_within) → Limited c.args.n.now
small c = sized-out c.args.n.now (shape_of _ (search rules) (search rules)) (sym c.is_within.ensures ∙ c.if-is_within.true)

pub reaches-requires : goal.reaches-requires
reaches-requires c = small (goal.at.reaches-requires c).Then-is_within

pub returns-then-is_within : goal.returns-then-is_within
returns-then-is_within c =
    sym (listable-as c.args.n.now _ (small (goal.at.returns-then-is_within c).Then-is_within) (sym c.is_within.ensures ∙ c.if-is_within.true) (sym c.reaches.ensures))

pub returns-else-is_within : goal.returns-else-is_within
returns-else-is_within c = c.if-is_within.false ∙ sym (listable-no c.args.n.now (sym c.is_within.ensures ∙ c.if-is_within.false))
