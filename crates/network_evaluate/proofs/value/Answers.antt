-- `network_evaluate::value` meets its contract: by the rules the listing is handed out whole, and the divisors settle along it. Assumes nothing.
use mathlib.Core.Path.{◌∙◌}
use native.Mathlib.Omega.{arith}
use borrow.Author.Rules.{rules}
use Rattle.network.specs.{Listing.listing, Held.net_of, Parts.Limited}
use Rattle.network.proofs.{Handing.shape_of, Limits.rules-sized, Listings.listing-length, Holding.divisors-held}
use Rattle.network_listing.specs.Parts.{PaddedList}
use Rattle.network_listing.proofs.Answering.{listed-out, rules-listable}
use Rattle.network_evaluate.proofs.Answering.{taken, answer-is}
use Rattle.network_evaluate.proofs.value.Goals as goal
use Rattle.network_evaluate.proofs.value.Goals.{After-listing-l}

limited : (c : After-listing-l) → Limited c.args.n.now
limited c = rules-sized c.args.n.now (shape_of c.args.n.now (search rules) (search rules)) c.requires

listed : (c : After-listing-l) → PaddedList (listing (net_of c.args.n.now)) c.listing-l.result.count c.listing-l.result.order
listed c = listed-out c.args.n.now _ (rules-listable c.args.n.now c.requires) c.listing-l.ensures

pub shared_ref_as_front-order : goal.shared_ref_as_front-order
shared_ref_as_front-order c =
    let p = (goal.at.shared_ref_as_front-order c).After-listing-l in
    omega (arith, (listed p).number, listing-length (net_of c.args.n.now), divisors-held c.args.n.now (limited p).counted, (limited p).variables)

pub given-requires : goal.given-requires
given-requires c = omega (arith, (limited (goal.at.given-requires c).After-listing-l).variables)

pub settle-t-requires : goal.settle-t-requires
settle-t-requires c = let p = (goal.at.settle-t-requires c).After-listing-l in (limited p, taken _ (listed p))

pub collect-requires : goal.collect-requires
collect-requires c = limited (goal.at.collect-requires c).After-listing-l

pub returns : goal.returns
returns c = c.collect.ensures ∙ answer-is c.args.n.now c.requires c.args.setting c.given.ensures
    (taken _ (listed (goal.at.returns c).After-listing-l)) c.settle-t.ensures
