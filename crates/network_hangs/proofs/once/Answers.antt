-- The answers of `network_hangs::once`.
use mathlib.Core.Path.{◌≡◌, ap, subst}
use mathlib.Core.List.{[]}
use native.Mathlib.Omega.{arith}
use lib.ListN.{get_or}
use Rattle.sets.specs.Lists.{any}
use Rattle.cube.specs.Cube.{lits}
use Rattle.expression.specs.Words.{cubes_of}
use Rattle.network_nodes.specs.Nodes.{cut}
use Rattle.network.specs.Held.{net_of, number_at, place_at}
use Rattle.network.proofs.{Parts.divisors-next, Parts.divisors-done, Holding.held-distinct}
use Rattle.network_reads.specs.Reading.{Marks}
use Rattle.network_reads.proofs.Marking.{gather-more, gather-done}
use Rattle.network_hangs.specs.Parts.{read_if}
use Rattle.network_hangs.proofs.Reading.{asks, asks-first, asks-next}
use Rattle.network_hangs.proofs.once.Goals as goal
use Rattle.network_hangs.proofs.once.Goals.{After-number_of}

-- the number of divisor i
number : (c : After-number_of) → c.number_of.result ≡ number_at c.args.n.now.inputs c.loop-i.i
number c = omega (arith, c.number_of.ensures, c.requires.variables)

pub loop-i-init : goal.loop-i-init
loop-i-init c = asks-first (net_of c.args.n.now) (held-distinct c.args.n.now)

pub asked-requires : goal.asked-requires
asked-requires c = (c.requires.narrow, omega (arith, number (goal.at.asked-requires c).After-number_of, c.requires.variables))

pub loop-i-preserved : goal.loop-i-preserved
loop-i-preserved c =
    let n = c.args.n.now in
    λ t p.
    gather-more _ _ _ _ (asks-next t (divisors-next n.counts n.words n.inputs n.outputs n.divisors c.requires.counted c.loop-i.i (omega arith)))
    c.union-all.ensures
    (subst (λ v. Marks (lits c.asked.result) (read_if v (get_or (cut n.counts (cubes_of n.words)) (place_at n.inputs n.outputs v) []) t))
    (number (goal.at.loop-i-preserved c).After-number_of) (c.asked.ensures.each t p))
    (c.loop-i.invariant t p)

pub returns : goal.returns
returns c =
    let n = c.args.n.now in
    let e = divisors-done n.counts n.words n.inputs n.outputs n.divisors c.requires.counted c.loop-i.i (omega arith) in
    record { each = λ t p. gather-done _ _ (λ v. ap (any (asks t v)) e) (c.loop-i.invariant t p) }
