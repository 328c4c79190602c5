-- The answers of `extract_keep::renew_nodes`.
use native.Mathlib.Omega.{arith}
use Rattle.network.specs.{Net.nodes, Held.net_of}
use Rattle.extract_keep.proofs.Keeping.{nodes-many, shift-net, shift-all}
use Rattle.extract_keep.proofs.renew_nodes.Goals as goal

pub loop-i-preserved : goal.loop-i-preserved
loop-i-preserved c =
    shift-net (nodes (net_of c.args.old.now)) (nodes (net_of c.args.new.now)) c.loop-i.i c.loop-i.invariant c.node_of.ensures c.node_of-in-loop-i.ensures
    c.renew_node.ensures

pub returns : goal.returns
returns c =
    shift-all (nodes (net_of c.args.old.now)) (nodes (net_of c.args.new.now)) c.loop-i.i c.loop-i.invariant
    (omega (arith, nodes-many c.args.old.now, c.requires.0.slots)) (omega (arith, nodes-many c.args.new.now, c.requires.1.slots))
