-- `network_listing::next` meets its contract: a search among the divisors and their places. Assumes nothing.
use Rattle.std.proofs.Common.{◌≡◌, ◌∙◌, ap, ◌+◌, ◌≤◌, sym, arith, rules, length}
use mathlib.Core.Option.{some}
use Rattle.sets.specs.Word.{largest}
use Rattle.std.specs.List.{find, enumerate_from}
use Rattle.std.specs.Option.{option_map}
use Rattle.std.proofs.lemmas.Iterator.{YieldsList-from_take}
use Rattle.std.proofs.lemmas.Iterator.Adapters.{YieldsList-from_skip}
use Rattle.std.proofs.lemmas.Iterator.Consumers.{YieldsList-from_enumerate, YieldsList-at}
use Rattle.std.proofs.lemmas.Iterator.Search.{find_from_yields_List}
use borrow.Author.Tests.{tests}
use Rattle.cube.specs.Cube.{lits}
use Rattle.network_nodes.proofs.Chains.{cubes, nodes-list}
use Rattle.network.specs.Parts.{divisors_of}
use Rattle.network.proofs.Parts.{divisors-cut, divisors-length}
use Rattle.network_listing.proofs.Turns.{passes, next-none, next-found}
use Rattle.network_listing.proofs.next.Goals as goal
use Rattle.network_listing.proofs.next.Goals.{After-find}

found : (c : After-find) → let n = c.args.n.now in option_map (λ p. (p.0, cubes p.1)) c.find.result ≡ find (passes (lits c.args.known) n.inputs)
    (enumerate_from 0 (divisors_of n.outputs n.divisors n.counts n.words))
found c =
    let n = c.args.n.now in
    find_from_yields_List (passes (lits c.args.known) n.inputs) c.find.new.self _ c.find.result c.find.ensures.ran
    (YieldsList-from_enumerate (YieldsList-at c.enumerate.ensures.source (YieldsList-from_take n.divisors
    (YieldsList-at c.take.ensures.source (YieldsList-from_skip n.outputs
    (YieldsList-at c.skip.ensures.source (nodes-list c.each.ensures)) c.skip.ensures.count))
    c.take.ensures.count)) c.enumerate.ensures.count)
    (λ x b q k. search (rules, tests))
    ∙ ap (λ fs. find (passes (lits c.args.known) n.inputs) (enumerate_from 0 fs)) (divisors-cut n.counts n.words n.outputs n.divisors)

fits : (c : After-find) → let n = c.args.n.now in n.inputs + length (divisors_of n.outputs n.divisors n.counts n.words) ≤ largest
fits c = let n = c.args.n.now in omega (arith, divisors-length n.counts n.words n.outputs n.divisors c.requires.counted, c.requires.variables)

pub returns-in_err-i : goal.returns-in_err-i
returns-in_err-i c =
    let f = (goal.at.returns-in_err-i c).After-find in
    rw c.from_residual.ensures (next-none _ _ _ (fits f) (found f) (ap (option_map (λ p. (p.0, cubes p.1))) c.in_err-i.was))

pub returns : goal.returns
returns c =
    let f = (goal.at.returns c).After-find in
    next-found _ _ _ (fits f) (found f) (ap (option_map (λ p. (p.0, cubes p.1))) c.in_ok-i.was) ∙ ap some (sym c.number_of.ensures)
