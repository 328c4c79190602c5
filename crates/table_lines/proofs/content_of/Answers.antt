-- `table_lines::content_of` meets its contract: the comment and then the blanks at both ends go. Assumes nothing.
use Rattle.std.proofs.Common.{ap, arith, length}
use Rattle.table_lines.proofs.{Ends.front-le}
use Rattle.table_lines.proofs.content_of.Goals as goal

pub overflow_sub-start : goal.overflow_sub-start
overflow_sub-start c = omega (arith, front-le c.uncomment-u.result.now, ap length c.trim_front-f.ensures)
