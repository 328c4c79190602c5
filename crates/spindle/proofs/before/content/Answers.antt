-- `before::content` meets its contract. Assumes nothing.
use Rattle.std.proofs.Common.{◌≤◌, length, arith}
use Rattle.table_lines.proofs.Spans.{span-inside, span-content}
use Rattle.spindle.proofs.before.content.Goals as goal
use Rattle.spindle.proofs.before.content.Goals.{After-content_of-span}

-- what is left stands within the line
left : (c : After-content_of-span)
    → (c.content_of-span.result.start ≤ c.content_of-span.result.end) × (c.content_of-span.result.end ≤ length c.args.l.now)
left c = rw c.content_of-span.ensures (omega arith, span-inside _)

pub returns : goal.returns
returns c = rw c.content_of-span.ensures (span-content _)

pub slice_bounds-result-end : goal.slice_bounds-result-end
slice_bounds-result-end c = (left (goal.at.slice_bounds-result-end c).After-content_of-span).1
