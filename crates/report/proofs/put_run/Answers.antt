-- `report::put_run` meets its contract: the line at the start, those of the steps, and the one at the end. Assumes nothing.
use native.Mathlib.Omega.{arith}
use Rattle.letters.proofs.Laying.{due_all, due-next, due-last}
use Rattle.report.proofs.{Lines.found-start}
use Rattle.report.proofs.put_run.Goals as goal

-- the states of the walk: after `start` and its count, the line's end, the steps, `end` and its count
pub returns : goal.returns
returns c =
    let from-steps = due-next (due-next (due_all _ _ (omega arith) (omega arith) (found-start _)) c.put_field-p.ensures) c.put-q.ensures in
    due-last (due-next (due-next from-steps c.put_steps-r.ensures) c.put_field-s.ensures) c.put_stop.ensures
