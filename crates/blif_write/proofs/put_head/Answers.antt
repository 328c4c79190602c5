-- `blif_write::put_head` meets its contract: the model's name, the inputs, the outputs. Assumes nothing.
use native.Mathlib.Omega.{arith}
use Rattle.letters_products.specs.Spelled.{spelled}
use Rattle.letters.proofs.Laying.{due_all, due-next, due-last}
use Rattle.blif_write.proofs.{Texts.head-start}
use Rattle.blif_write.proofs.put_head.Goals as goal

-- the states of the walk: after `.inputs`, the inputs, `.outputs`, the outputs, the line's end
pub returns : goal.returns
unfolding spelled
returns c =
    let from-outputs = due-next (due-next (due_all _ _ (omega arith) (omega arith) (head-start _ _)) c.put_bytes-p.ensures) c.put_names-q.ensures in
    due-last (due-next (due-next from-outputs c.put_bytes-r.ensures) c.put_names-s.ensures) c.put.ensures
