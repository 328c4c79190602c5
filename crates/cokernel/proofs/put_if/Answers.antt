-- `cokernel::put_if` meets its contract. Assumes nothing.
use native.Mathlib.Omega.{arith}
use Rattle.expression.proofs.Placing.{put-placed}
use Rattle.cokernel.proofs.{Steps.walked-still}
use Rattle.cokernel.proofs.put_if.Goals as goal

pub returns-then-not-wanted : goal.returns-then-not-wanted
returns-then-not-wanted c = rw (c.if-not-wanted.true) (walked-still _ _ _ _ (omega arith))

pub returns : goal.returns
returns c =
    rw (c.if-not-wanted.false)
    (record { next = omega arith; placed = λ h k. put-placed (omega arith) c.put_cube.ensures })
