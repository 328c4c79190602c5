-- `network_nodes::front` meets its contract: the cubes up to a start. Assumes nothing.
use Rattle.network_nodes.proofs.{Starting.front-is}
use Rattle.network_nodes.proofs.front.Goals as goal

pub returns : goal.returns
returns c =
    (front-is c.args.counts.now _ _ c.args.i _ _ c.number.ensures c.start-e.ensures c.part.ensures.0, c.part.ensures.1)
