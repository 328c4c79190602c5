-- `report::put_refusal` meets its contract: the number, the line and the column, each after its words. Assumes nothing.
use native.Mathlib.Omega.{arith}
use Rattle.letters.proofs.Laying.{due_all, due-next, due-last}
use Rattle.report.proofs.{Lines.refusal-start}
use Rattle.report.proofs.put_refusal.Goals as goal

-- the states of the walk: after the column, the line and the number, and before any is put
pub returns : goal.returns
returns c =
    due-last (due-next (due-next (due-next (due_all _ _ (omega arith) (omega arith) (refusal-start _)) (rw c.from.ensures at c.put_field-p.ensures))
    (rw c.from-2.ensures at c.put_field-q.ensures)) c.put_field-r.ensures) c.put.ensures
