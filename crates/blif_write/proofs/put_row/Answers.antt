-- `blif_write::put_row` meets its contract: the signs, a space where there are any, and `1`. Assumes nothing.
use native.Mathlib.Omega.{arith}
use Rattle.letters_products.specs.Spelled.{spelled}
use Rattle.letters.proofs.Laying.{due_all, due-next, due-last}
use Rattle.blif_write.proofs.{Texts.row-start}
use Rattle.blif_write.proofs.put_row.Goals as goal

-- the states of the walk: after the signs, the space, `1`
pub returns : goal.returns
unfolding spelled
returns c =
    let plain = c.requires in
    let from-gap = due-next (due_all _ _ (omega arith) (omega arith) (row-start _ _ plain)) c.put_signs-p.ensures in
    due-last (due-next from-gap c.put_gap-q.ensures) c.put_bytes.ensures
