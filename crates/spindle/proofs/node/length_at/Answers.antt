-- `node::length_at` meets its contract: the words of node i have none left over. Assumes nothing.
use Rattle.std.proofs.Common.{◌∙◌}
use Rattle.spindle.proofs.{Columns.length_whole}
use Rattle.spindle.proofs.node.length_at.Goals as goal

pub returns : goal.returns
returns c = let node = c.node.ensures in c.length_of.ensures ∙ length_whole _ _ node.0 node.1
