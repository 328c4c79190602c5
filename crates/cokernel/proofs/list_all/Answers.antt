-- `cokernel::list_all` meets its contract. Assumes nothing.
use native.Mathlib.Omega.{arith}
use Rattle.cokernel.proofs.{Telling.walks-first, Telling.whole-walked}
use Rattle.cokernel.proofs.list_all.Goals as goal

pub list_beyond-requires : goal.list_beyond-requires
list_beyond-requires c =
    record { walks = walks-first _ _ c.empty-none.ensures _ _ c.close-s.ensures; few = omega (arith, c.put_if-next.ensures.next) }

pub returns : goal.returns
returns c =
    whole-walked _ _ c.empty-none.ensures _ _ c.close-s.ensures _ c.is_closed-closed.ensures _ (omega arith)
    c.put_if-next.ensures c.list_beyond.ensures
