-- `blif_write::put_word` meets its contract: the space, then the name. Assumes nothing.
use mathlib.Core.Path.{refl}
use native.Mathlib.Omega.{arith}
use Rattle.letters.proofs.Laying.{due_all, due-next, due-last}
use Rattle.blif_write.proofs.put_word.Goals as goal

pub returns : goal.returns
returns c =
    due-last (due-next (due_all _ _ (omega arith) (omega arith) refl) c.put-p.ensures) c.put_name.ensures
