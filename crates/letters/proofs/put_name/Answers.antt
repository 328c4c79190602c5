-- `letters::put_name` meets its contract: the letter, then the number. Assumes nothing.
use mathlib.Core.Path.{refl}
use native.Mathlib.Omega.{arith}
use Rattle.letters.proofs.Laying.{due_all, due-next, due-last}
use Rattle.letters.proofs.put_name.Goals as goal

pub returns : goal.returns
returns c =
    due-last (due-next (due_all _ _ (omega arith) (omega arith) refl) c.put-p.ensures) c.put_number.ensures
