-- `network_listing::listing` meets its contract: nothing where the limits or the literals do not allow it, else the listing. Assumes nothing.
use mathlib.Core.Path.{◌≡◌, sym, ◌∙◌}
use mathlib.Core.Bool.{true, false}
use borrow.Author.Rules.{rules}
use Rattle.network.{specs.Answers.listable, proofs.Handing.shape_of, proofs.Limits.sized-out}
use Rattle.network_listing.proofs.Answering.{listed-as, listable-sized}
use Rattle.network_listing.proofs.listing.Goals as goal
use Rattle.network_listing.proofs.listing.Goals.{Then-lists}

allowed : (c : Then-lists) → listable c.args.n ≡ true
allowed c = sym c.lists.ensures ∙ c.if-lists.true

pub list-requires : goal.list-requires
list-requires c =
    sized-out c.args.n (shape_of _ (search rules) (search rules)) (listable-sized c.args.n (allowed (goal.at.list-requires c).Then-lists))

pub returns-then-lists : goal.returns-then-lists
returns-then-lists c = listed-as _ _ true (allowed (goal.at.returns-then-lists c).Then-lists) c.list.ensures

pub returns-else-lists : goal.returns-else-lists
returns-else-lists c = listed-as c.args.n _ false (sym c.lists.ensures ∙ c.if-lists.false) c.nothing.ensures
