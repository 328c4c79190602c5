-- `division::list_quotient` meets its contract: what the chain gives is the quotient before it is sorted. Assumes nothing.
use mathlib.Core.Path.{◌∙◌}
use borrow.Author.Rules.{rules}
use borrow.Author.Tests.{tests}
use Rattle.std.proofs.lemmas.Iterator.{maps, YieldsList-from_map_by}
use Rattle.std.specs.Iterator.{YieldsFirstBy, Adapters.filter_steps}
use Rattle.std.proofs.lemmas.Iterator.Consumers.{YieldsList-from_filter, YieldsList-at}
use Rattle.sets.specs.Sets.{sub, without}
use Rattle.cube.specs.Cube.{lits}
use Rattle.expression.specs.Words.{cubes_of}
use Rattle.expression.proofs.{Chains.left, Chains.each-list, Placing.appends-as}
use Rattle.division.specs.Division.{in_quotient}
use Rattle.division.proofs.Listing.{filter-keep, kept-items}
use Rattle.division.proofs.list_quotient.Goals as goal

pub returns : goal.returns
returns c =
    let f = cubes_of c.args.f.now in
    let first = lits c.cube_at-first.result in
    let p = in_quotient f (cubes_of c.args.d.now) in
    let (items, came, stand) = c.list.ensures in
    appends-as
    (kept-items (maps (filter_steps (YieldsFirstBy lits left) _) _) p items came _
    (YieldsList-from_filter _ p
    (YieldsList-at c.filter-2.ensures.source
    (YieldsList-from_map_by _ lits (λ e. without e first)
    (YieldsList-at c.map-left_over.ensures.source
    (YieldsList-from_filter _ (sub first) (YieldsList-at c.filter.ensures.source (each-list c.each.ensures)) c.filter.ensures.closure
    (λ x b q k. search (rules, tests))))
    c.map-left_over.ensures.closure (λ x r q k. search (rules, tests))))
    c.filter-2.ensures.closure (λ x b q k. search (rules, tests)))
    ∙ rw (filter-keep, c.cube_at-first.ensures))
    stand
