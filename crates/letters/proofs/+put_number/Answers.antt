-- `letters::put_number` meets its contract: the digits before the last one are those of a tenth. Assumes nothing.
use native.Mathlib.Omega.{arith}
use Rattle.letters.proofs.Laying.{due_all, due-next, due-last}
use Rattle.letters.proofs.Numbers.{decimal-one, decimal-more}
use Rattle.letters.proofs.+put_number.Goals as goal

pub returns-then-n-lt10 : goal.returns-then-n-lt10
returns-then-n-lt10 t c = due-last (due_all _ _ (omega arith) (omega arith) (decimal-one _ c.if-n-lt10.true)) c.put.ensures

-- the digits of a tenth are due, then the last one
pub returns : goal.returns
returns t c =
    due-last (due-next (due_all _ _ (omega arith) (omega arith) (decimal-more _ c.if-n-lt10.false)) c.put_number-p.ensures) c.put-2.ensures
