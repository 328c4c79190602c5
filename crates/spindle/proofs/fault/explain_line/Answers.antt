-- `fault::explain_line` is safe and ends. Assumes nothing.
use Rattle.table_lines.proofs.Lining.{line-ends}
use Rattle.spindle.proofs.fault.explain_line.Goals as goal

pub slice_bounds-line-end : goal.slice_bounds-line-end
slice_bounds-line-end c = (line-ends _ _ _ c.line_end-e.ensures c.reach-reached.ensures.inside).1
