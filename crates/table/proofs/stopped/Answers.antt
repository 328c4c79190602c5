-- `table::stopped` meets its contract. Assumes nothing.
use Rattle.table.proofs.stopped.Goals as goal

pub returns-in-Next : goal.returns-in-Next
returns-in-Next c = rw c.in-Next.is

pub returns-in-Done : goal.returns-in-Done
returns-in-Done c = rw c.in-Done.is

pub returns-in-Refused : goal.returns-in-Refused
returns-in-Refused c = rw (c.in-Refused.is, c.column.ensures)
