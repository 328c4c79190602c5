-- The answers of `image_write::nodes_bits`.
use Prim.Native.Nat.{◌+◌, ◌<◌}
use mathlib.Core.Path.{◌≡◌, ◌∙◌, ap}
use native.Mathlib.Omega.{arith}
use lib.ListN.{length, get_or, length-append, length-take}
use Rattle.std.specs.Iterator.{YieldsFirstBy}
use Rattle.std.specs.Iterator.Adapters.{take_steps}
use Rattle.std.proofs.lemmas.Iterator.{YieldsList, YieldsList-from_take}
use Rattle.std.proofs.lemmas.Iterator.Consumers.{YieldsList-at, YieldsList-turn, YieldsList-end}
use Rattle.expression.specs.Words.{cubes_of}
use Rattle.network_nodes.{specs.Nodes.cut, proofs.Chains.nodes-list, proofs.Chains.left, proofs.Chains.cubes}
use Rattle.image_fields.specs.Fields.{field_bits}
use Rattle.image_laws.specs.Image.{node_fields}
use Rattle.image_write.proofs.Following.{all_nodes, all-bits, nodes-next, nodes-none, node-few}
use Rattle.image_write.proofs.nodes_bits.Goals as goal
use Rattle.image_write.proofs.nodes_bits.Goals.{After-into_iter-f-iterator, In-Some}

-- what the loop goes through
road : (c : After-into_iter-f-iterator) → YieldsList (take_steps (YieldsFirstBy cubes left)) cubes c.into_iter-f-iterator.result (all_nodes c.args.n.now)
road c = YieldsList-at c.into_iter-f-iterator.ensures.into_iter_gives (YieldsList-from_take (c.args.n.now.outputs + c.args.n.now.divisors)
    (YieldsList-at c.take-f-items.ensures.source (nodes-list c.each.ensures)) c.take-f-items.ensures.count)

-- the node of a turn
turn : (c : In-Some) → let fs = all_nodes c.args.n.now in let k = length c.loop-f.yielded in
    (k < length fs) × (cubes_of c.in-Some.f.now ≡ get_or fs k (cubes_of c.in-Some.f.now))
turn c = YieldsList-turn (road (goal.at.In-Some c).After-into_iter-f-iterator) c.loop-f.yielded _ c.loop-f.yielded_by _ c.next.new.self c.in-Some.f c.in-Some.is c.next.ensures.steps

pub node_bits-sum-requires : goal.node_bits-sum-requires
node_bits-sum-requires c =
    let t = turn (goal.at.node_bits-sum-requires c).In-Some in
    omega (arith, node-few c.args.n.now _ _ t.0 t.1, c.requires.few)

pub loop-f-preserved : goal.loop-f-preserved
loop-f-preserved c =
    let t = turn (goal.at.loop-f-preserved c).In-Some in
    let q = nodes-next (all_nodes c.args.n.now) _ _ t.0 t.1 in
    let l = ap length q ∙ length-append (field_bits (node_fields (cubes_of c.in-Some.f.now))) _ in
    rw (length-append c.loop-f.yielded _) (record {
      left = omega (arith, l, c.loop-f.invariant.left, c.node_bits-sum.ensures.0);
      most = omega (arith, c.loop-f.invariant.most, c.node_bits-sum.ensures.1);
    })

pub returns : goal.returns
returns c =
    let n = c.args.n.now in
    let q = YieldsList-end (road (goal.at.returns c).After-into_iter-f-iterator) c.loop-f.yielded _ c.loop-f.yielded_by _ c.next.new.self c.in-None.is c.next.ensures.steps in
    let z = ap length (nodes-none (all_nodes n) (length c.loop-f.yielded) (omega (arith, q.1))) in (
      omega (arith, z, c.loop-f.invariant.left, ap length (all-bits n)),
      omega (arith, c.loop-f.invariant.most, q.1, length-take (n.outputs + n.divisors) (cut n.counts (cubes_of n.words)), c.requires.nodes),
    )
