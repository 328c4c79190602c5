-- The answers of `network_evaluate::settle`.
use Prim.Native.Nat.{◌+◌, ◌≤◌, ◌<◌}
use mathlib.Core.Path.{refl, sym, ◌∙◌}
use native.Mathlib.Omega.{arith}
use lib.ListN.{get_or}
use Rattle.sets.proofs.Places.{at_in}
use Rattle.cube.specs.Cube.{lits}
use Rattle.network.specs.{Held.net_of}
use Rattle.network.proofs.{Parts.place_at_lem, Parts.divisor_range, Listings.listing-number}
use Rattle.network_evaluate.proofs.{Settling.settled_on, Settling.settled-done}
use Rattle.network_evaluate.proofs.settle.Goals as goal
use Rattle.network_evaluate.proofs.settle.Goals.{In-loop-v}

-- the number whose turn it is is that of a divisor
range : (c : In-loop-v) → let n = c.args.n.now in let v = get_or c.args.order.now c.loop-v.v-index 0 in (n.inputs ≤ v) × (v < n.inputs + n.divisors)
range c =
    let n = c.args.n.now in
    let o = c.args.order.now in
    divisor_range n.counts n.words n.inputs n.outputs n.divisors c.requires.0.counted _
    (listing-number (net_of n) _ (rw (sym c.requires.1) (at_in o c.loop-v.v-index 0 (omega arith))))

pub loop-v-init : goal.loop-v-init
loop-v-init c = refl

pub step-t-requires : goal.step-t-requires
step-t-requires c = (c.requires.0.narrow, omega (arith, range (goal.at.step-t-requires c).In-loop-v, c.requires.0.variables))

pub loop-v-preserved : goal.loop-v-preserved
loop-v-preserved c =
    let n = c.args.n.now in
    let o = c.args.order.now in
    let r = range (goal.at.loop-v-preserved c).In-loop-v in
    sym (settled_on (net_of n) o c.loop-v.v-index (lits c.loop-v.t) (omega arith) (get_or o c.loop-v.v-index 0) _ _ refl
    (place_at_lem n.counts n.words n.inputs n.outputs n.divisors _ r.0 r.1) c.step-t.ensures) ∙ c.loop-v.invariant

pub returns : goal.returns
returns c = sym (settled-done _ c.args.order.now c.loop-v.v-index _ (omega arith)) ∙ c.loop-v.invariant
