-- `division::list_spared` meets its contract: what the chain gives are the cubes that are spared. Assumes nothing.
use borrow.Author.Rules.{rules}
use borrow.Author.Tests.{tests}
use Rattle.std.proofs.lemmas.Iterator.Consumers.{YieldsList-from_filter, YieldsList-at}
use Rattle.std.specs.Iterator.{YieldsFirstBy}
use Rattle.cube.specs.Cube.{lits}
use Rattle.expression.specs.Words.{cubes_of}
use Rattle.expression.proofs.{Chains.left, Chains.each-list, Placing.appends-as}
use Rattle.division.specs.Parts.{spared}
use Rattle.division.proofs.Listing.{kept-items}
use Rattle.division.proofs.list_spared.Goals as goal

pub returns : goal.returns
returns c =
    let p = spared (cubes_of c.args.q.now) (cubes_of c.args.d.now) in
    let (items, came, stand) = c.list.ensures in
    appends-as
    (kept-items (YieldsFirstBy lits left) p items came _
    (YieldsList-from_filter _ p (YieldsList-at c.filter.ensures.source (each-list c.each.ensures)) c.filter.ensures.closure
    (λ x b q k. search (rules, tests))))
    stand
