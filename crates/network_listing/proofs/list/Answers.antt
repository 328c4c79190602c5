-- The answers of `network_listing::list`.
use Prim.Native.Nat.{suc, ◌+◌, ◌<◌, ◌-◌}
use mathlib.Core.Path.{◌≡◌, sym, ◌∙◌, subst}
use native.Mathlib.Omega.{arith}
use lib.ListN.{take}
use Rattle.cube.specs.Cube.{lits}
use Rattle.network.specs.{Net.Net, Listing.next_ready, Listing.listing, Held.net_of, Held.most_variables}
use Rattle.network_listing.specs.Parts.{next_in, PaddedList}
use Rattle.network.proofs.{Parts.divisor_range, Listings.next-some, Holding.held-distinct, Holding.divisors-held}
use Rattle.network_listing.proofs.Turns.{Turn, turn-first, turn_more, turn-none, turn_last, next-ready}
use Rattle.network_listing.proofs.list.Goals as goal
use Rattle.network_listing.proofs.list.Goals.{At-loop-count, In-Some}

abbrev held : At-loop-count → Net
held l = net_of l.args.n.now

-- the next number by the literals of what is known is that of the definition
same : (l : At-loop-count) → next_in (lits l.loop-count.known) (held l).divisors ≡ next_ready (held l).inputs
    (take l.loop-count.count l.loop-count.order) (held l).divisors
same l = next-ready l.args.n.now.inputs _ _ l.loop-count.invariant.spans (held l).divisors (held-distinct l.args.n.now).above

range : (c : In-Some) → c.in-Some.v < most_variables
range c =
    let n = c.args.n.now in
    let x = next-some n.inputs (take c.loop-count.count c.loop-count.order) (net_of n).divisors c.in-Some.v
    (sym (same (goal.at.In-Some c).At-loop-count) ∙ c.in-Some.ensures) in
    let r = divisor_range n.counts n.words n.inputs n.outputs n.divisors c.requires.counted c.in-Some.v (x.node, x.inside, x.number) in
    omega (arith, c.requires.variables)

pub loop-count-init : goal.loop-count-init
loop-count-init c = turn-first _ _ _ (omega (arith, divisors-held c.args.n.now c.requires.counted)) c.below-known.ensures

pub returns-in_default : goal.returns-in_default
returns-in_default c =
    let l = (goal.at.returns-in_default c).At-loop-count in
    turn-none (held l) c.loop-count.order c.loop-count.count (lits c.loop-count.known) _ (omega (arith, c.requires.variables)) c.loop-count.invariant
    (sym (same l) ∙ c.in_default.ensures)

pub overflow_cast-order : goal.overflow_cast-order
overflow_cast-order c = omega (arith, range (goal.at.overflow_cast-order c).In-Some)

pub both-known-requires : goal.both-known-requires
both-known-requires c = range (goal.at.both-known-requires c).In-Some

pub loop-count-preserved : goal.loop-count-preserved
loop-count-preserved c =
    let k = c.args.n.now.divisors in
    let l = (goal.at.loop-count-preserved c).At-loop-count in
    let less : k - c.loop-count.count ≡ suc (k - (c.loop-count.count + 1)) = omega arith in
    let t = subst (λ x. Turn (held l) x c.loop-count.order c.loop-count.count (lits c.loop-count.known)) less c.loop-count.invariant in
    turn_more (held l) c.loop-count.order c.loop-count.count (lits c.loop-count.known) (k - (c.loop-count.count + 1))
    (omega (arith, c.requires.variables)) t _ (sym (same l) ∙ c.in-Some.ensures) _ c.both-known.ensures

pub returns : goal.returns
returns c =
    let n = held (goal.at.returns c).At-loop-count in
    let e : c.loop-count.count ≡ c.args.n.now.divisors = omega arith in
    subst (λ x. PaddedList (listing n) x c.loop-count.order) e
    (turn_last n c.loop-count.order c.loop-count.count (lits c.loop-count.known) _ (omega (arith, c.requires.variables)) c.loop-count.invariant (omega arith))
