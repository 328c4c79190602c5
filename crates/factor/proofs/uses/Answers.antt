-- `factor::uses` meets its contract: what the chain counts. Assumes nothing.
use mathlib.Core.{Path.◌∙◌, Path.ap, Logic.inl}
use lib.ListN.{length}
use native.Mathlib.Omega.{arith}
use borrow.Author.Rules.{rules}
use borrow.Author.Tests.{tests}
use Rattle.std.proofs.lemmas.Iterator.Consumers.{YieldsList-from_filter, YieldsList-at, count_from_yields_List}
use Rattle.sets.specs.Sets.{mem}
use Rattle.expression.specs.Words.{cubes_of}
use Rattle.expression.proofs.{Chains.each-list, Words.cubes-few}
use Rattle.division.proofs.Listing.{filter-keep}
use Rattle.factor.proofs.uses.Goals as goal

pub count-requires-clause-fits : goal.count-requires-clause-fits
count-requires-clause-fits c = inl (rw (c.filter.ensures.source, c.each.ensures) (omega (arith, cubes-few c.args.f.now)))

pub returns : goal.returns
returns c =
    count_from_yields_List c.filter.result c.count.result c.count.ensures.ran
    (YieldsList-from_filter _ (mem c.args.l.0) (YieldsList-at c.filter.ensures.source (each-list c.each.ensures)) c.filter.ensures.closure
    (λ x b q k. search (rules, tests)))
    ∙ ap length (filter-keep (mem c.args.l.0) (cubes_of c.args.f.now))
