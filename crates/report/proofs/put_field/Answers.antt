-- `report::put_field` meets its contract: a word, then a number. Assumes nothing.
use mathlib.Core.Path.{refl}
use native.Mathlib.Omega.{arith}
use Rattle.letters.proofs.Laying.{due_all, due-next, due-last}
use Rattle.report.proofs.put_field.Goals as goal

pub returns : goal.returns
returns c =
    due-last (due-next (due_all _ _ (omega arith) (omega arith) refl) c.put_bytes-p.ensures) c.put_number.ensures
