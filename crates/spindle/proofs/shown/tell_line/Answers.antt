-- `shown::tell_line` is safe and ends: the part that is shown stands in the line, and begins no later than the caret. Assumes nothing.
use Rattle.std.proofs.Common.{length, arith}
use Rattle.spindle.specs.Shown.{Shows}
use Rattle.spindle.proofs.{Windows.window-shows}
use Rattle.spindle.proofs.shown.tell_line.Goals as goal
use Rattle.spindle.proofs.shown.tell_line.Goals.{After-window-start}

fitting : (c : After-window-start) → Shows (length c.args.l.now) c.place_of-p.result c.window-start.result
fitting c = window-shows _ _ _ c.window-start.ensures (omega (arith, c.place_of-p.ensures))

pub slice_bounds-part-count : goal.slice_bounds-part-count
slice_bounds-part-count c = let f = fitting (goal.at.slice_bounds-part-count c).After-window-start in omega (arith, f.first, f.last)

pub slice_bounds-part-start : goal.slice_bounds-part-start
slice_bounds-part-start c = let f = fitting (goal.at.slice_bounds-part-start c).After-window-start in omega (arith, f.first, f.last)

pub slice_bounds-part-end : goal.slice_bounds-part-end
slice_bounds-part-end c = (fitting (goal.at.slice_bounds-part-end c).After-window-start).inside

pub slice_bounds-part-count-2 : goal.slice_bounds-part-count-2
slice_bounds-part-count-2 c = (fitting (goal.at.slice_bounds-part-count-2 c).After-window-start).first

pub slice_bounds-part-start-2 : goal.slice_bounds-part-start-2
slice_bounds-part-start-2 c = omega (arith, (fitting (goal.at.slice_bounds-part-start-2 c).After-window-start).first)
