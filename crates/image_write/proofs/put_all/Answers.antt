-- `image_write::put_all` meets its contract: the head, the divisors and the outputs, one after the other. Assumes nothing.
use Prim.Native.Nat.{◌+◌}
use mathlib.Core.List.{◌++◌}
use native.Mathlib.Omega.{arith}
use Rattle.image_fields.specs.Fields.{field_bits}
use Rattle.image_laws.specs.Image.{head_fields}
use Rattle.image_write.specs.Parts.{bits_from, all_bits}
use Rattle.image_write.proofs.Laying.{Going, going-all, going_next, going-ready}
use Rattle.image_write.proofs.put_all.Goals as goal
use Rattle.image_write.proofs.put_all.Goals.{After-put_head-p, After-put_nodes-q}

divisors-due : (c : After-put_head-p) → let n = c.args.n.now in
    Going c.args.o.now 0 (all_bits n) c.put_head-p.new.o c.put_head-p.result
    (bits_from n.outputs (n.outputs + n.divisors) n.words n.counts ++ bits_from 0 n.outputs n.words n.counts)
divisors-due c = going_next (going-all _ c.requires.ready) c.put_head-p.ensures c.put_head-p.auto.o

outputs-due : (c : After-put_nodes-q) → let n = c.args.n.now in
    Going c.args.o.now 0 (all_bits n) c.put_nodes-q.new.o c.put_nodes-q.result (bits_from 0 n.outputs n.words n.counts)
outputs-due c = going_next (divisors-due (goal.at.After-put_nodes-q c).After-put_head-p) c.put_nodes-q.ensures c.put_nodes-q.auto.o

pub put_head-p-requires : goal.put_head-p-requires
put_head-p-requires c =
    let p = c.requires in
    let n = c.args.n.now in
    (p.inputs, p.outputs, going-ready (field_bits (head_fields n.inputs n.outputs n.divisors)) _ (going-all _ p.ready))

pub put_nodes-q-requires : goal.put_nodes-q-requires
put_nodes-q-requires c =
    let n = c.args.n.now in
    (omega arith, c.requires.there, going-ready (bits_from n.outputs (n.outputs + n.divisors) n.words n.counts) _ (divisors-due (goal.at.put_nodes-q-requires c).After-put_head-p))

pub put_nodes-requires : goal.put_nodes-requires
put_nodes-requires c =
    let h = c.requires.there in
    (omega arith, record { counted = omega (arith, h.counted); nodes = omega (arith, h.nodes); few = h.few }, (outputs-due (goal.at.put_nodes-requires c).After-put_nodes-q).room)

pub returns : goal.returns
returns c = (outputs-due (goal.at.returns c).After-put_nodes-q).ends c.put_nodes.ensures
