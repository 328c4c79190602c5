-- `blif_lines::mark_sign` meets its contract. Assumes nothing.
use native.Mathlib.Omega.{arith}
use Rattle.blif_lines.proofs.Rowing.{sign-none, sign-some}
use Rattle.blif_lines.proofs.mark_sign.Goals as goal

pub returns-then-b-ne45 : goal.returns-then-b-ne45
returns-then-b-ne45 c = sign-some _ _ _ (omega arith) c.mark.ensures

pub returns-else-b-ne45 : goal.returns-else-b-ne45
returns-else-b-ne45 c = sign-none _ _ _ _ (omega arith)
