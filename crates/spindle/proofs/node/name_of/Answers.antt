-- `node::name_of` meets its contract: an output by its place, a divisor by its number. Assumes nothing.
use Rattle.spindle.proofs.{Columns.name-output, Columns.name-divisor}
use Rattle.spindle.proofs.node.name_of.Goals as goal

pub returns-then-i-n : goal.returns-then-i-n
returns-then-i-n c = name-output _ _ c.if-i-n.true

pub returns-else-i-n : goal.returns-else-i-n
returns-else-i-n c = name-divisor _ _ _ c.if-i-n.false c.number_of.ensures
