-- `blif_write::put_model` meets its contract: the head, the blocks of the divisors, those of the outputs, `.end`. Assumes nothing.
use native.Mathlib.Omega.{arith}
use Rattle.letters_products.specs.Spelled.{spelled}
use Rattle.letters.proofs.Laying.{due_all, due-next, due-last}
use Rattle.blif_write.proofs.{Texts.model-start}
use Rattle.blif_write.proofs.put_model.Goals as goal

pub returns : goal.returns
unfolding spelled
returns c =
    let from-blocks = due-next (due_all _ _ (omega arith) (omega arith) (model-start _ c.requires)) c.put_head-p.ensures in
    due-last (due-next (due-next from-blocks c.put_blocks-q.ensures) c.put_blocks-r.ensures) c.put_bytes.ensures
