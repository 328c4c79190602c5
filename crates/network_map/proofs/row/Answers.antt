-- `network_map::row` meets its contract: nothing past the last output. Assumes nothing.
use borrow.Author.Tests.{lt-ltb, le-ltb}
use Rattle.network_reads.proofs.Marking.{marks-none}
use Rattle.network_map.specs.Cells.{row_of}
use Rattle.network_map.proofs.row.Goals as goal

pub returns-then-j-n : goal.returns-then-j-n
unfolding row_of
returns-then-j-n c = rw (lt-ltb _ _ c.if-j-n.true) c.hangs.ensures

pub returns-else-j-n : goal.returns-else-j-n
unfolding row_of
returns-else-j-n c = rw (le-ltb _ _ c.if-j-n.false) (marks-none c.empty.ensures)
