-- The answers of `image_write::put_nodes`.
use mathlib.Core.List.{◌++◌}
use Prim.Native.Nat.{◌+◌, ◌-◌, ◌<◌}
use mathlib.Core.Path.{◌≡◌}
use native.Mathlib.Omega.{arith}
use lib.ListN.{length, get_or, drop, length-append}
use Rattle.std.specs.Iterator.{YieldsFirstBy}
use Rattle.std.specs.Iterator.Adapters.{take_steps, skip_steps}
use Rattle.std.proofs.lemmas.Iterator.{YieldsList, YieldsList-from_take}
use Rattle.std.proofs.lemmas.Iterator.Adapters.{YieldsList-from_skip}
use Rattle.std.proofs.lemmas.Iterator.Consumers.{YieldsList-at, YieldsList-turn, YieldsList-end}
use Rattle.expression.specs.Words.{cubes_of}
use Rattle.network_nodes.proofs.Chains.{left, cubes, nodes-list}
use Rattle.image_fields.specs.Fields.{field_bits}
use Rattle.image_laws.specs.Image.{node_fields}
use Rattle.image_write.specs.Parts.{nodes_from, bits_from}
use Rattle.image_write.proofs.Laying.{Going, going-as, going_next, going-ready, going_done}
use Rattle.image_write.proofs.Following.{spread_nodes, nodes-next, nodes-none}
use Rattle.image_write.proofs.put_nodes.Goals as goal
use Rattle.image_write.proofs.put_nodes.Goals.{After-into_iter-f-iterator, In-Some}

-- what the loop goes through
road : (c : After-into_iter-f-iterator) → YieldsList (take_steps (skip_steps (YieldsFirstBy cubes left))) cubes c.into_iter-f-iterator.result
    (nodes_from c.args.a c.args.e c.args.n.now.words c.args.n.now.counts)
road c = YieldsList-at c.into_iter-f-iterator.ensures.into_iter_gives (YieldsList-from_take (c.args.e - c.args.a)
    (YieldsList-at c.take-f-items.ensures.source (YieldsList-from_skip c.args.a (YieldsList-at c.skip.ensures.source (nodes-list c.each.ensures)) c.skip.ensures.count))
    c.take-f-items.ensures.count)

-- the node of a turn
turn : (c : In-Some) → let fs = nodes_from c.args.a c.args.e c.args.n.now.words c.args.n.now.counts in let k = length c.loop-f.yielded in
    (k < length fs) × (cubes_of c.in-Some.f.now ≡ get_or fs k (cubes_of c.in-Some.f.now))
turn c = YieldsList-turn (road (goal.at.In-Some c).After-into_iter-f-iterator) c.loop-f.yielded _ c.loop-f.yielded_by _ c.next.new.self c.in-Some.f c.in-Some.is c.next.ensures.steps

-- the next node's fields are due
ahead : (c : In-Some) → let n = c.args.n.now in let fs = nodes_from c.args.a c.args.e n.words n.counts in
    Going c.args.o.now c.args.at (bits_from c.args.a c.args.e n.words n.counts) c.loop-f.o c.loop-f.p
    (field_bits (node_fields (cubes_of c.in-Some.f.now)) ++ spread_nodes (drop (length c.loop-f.yielded + 1) fs))
ahead c = let t = turn c in going-as c.loop-f.invariant (nodes-next _ _ _ t.0 t.1)

pub put_node-p-requires : goal.put_node-p-requires
put_node-p-requires c = going-ready (field_bits (node_fields (cubes_of c.in-Some.f.now))) _ (ahead (goal.at.put_node-p-requires c).In-Some)

pub loop-f-preserved : goal.loop-f-preserved
loop-f-preserved c =
    rw (length-append c.loop-f.yielded _) (going_next (ahead (goal.at.loop-f-preserved c).In-Some) c.put_node-p.ensures c.put_node-p.auto.o)

pub returns : goal.returns
returns c =
    let q = YieldsList-end (road (goal.at.returns c).After-into_iter-f-iterator) c.loop-f.yielded _ c.loop-f.yielded_by _ c.next.new.self c.in-None.is c.next.ensures.steps in
    going_done (going-as c.loop-f.invariant (nodes-none (nodes_from c.args.a c.args.e c.args.n.now.words c.args.n.now.counts) (length c.loop-f.yielded) (omega (arith, q.1))))
