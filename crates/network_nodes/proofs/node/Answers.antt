-- `network_nodes::node` meets its contract: its cubes are those between two starts. Assumes nothing.
use Prim.Native.Nat.{◌<◌, min}
use mathlib.Core.Path.{◌∙◌, ap}
use native.Mathlib.Omega.{arith}
use lib.ListN.{length}
use Rattle.network_nodes.proofs.{Starting.node-is, Starting.node-past}
use Rattle.network_nodes.proofs.node.Goals as goal

pub returns-then-counts-i : goal.returns-then-counts-i
returns-then-counts-i c =
    (node-past c.args.counts.now _ _ c.args.i c.if-counts-i.true c.part.ensures.0, c.part.ensures.1)

pub returns : goal.returns
returns c =
    let h : c.args.i < length c.args.counts.now = omega arith in (
      node-is c.args.counts.now _ _ c.args.i _ _ h (c.start-a.ensures ∙ ap (min _) c.number-most.ensures)
          (c.start-e.ensures ∙ ap (min _) c.number-most.ensures) c.part-2.ensures.0,
      c.part-2.ensures.1,
    )
