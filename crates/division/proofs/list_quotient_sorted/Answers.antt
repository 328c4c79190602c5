-- `division::list_quotient_sorted` meets its contract: what was listed, put in order. Assumes nothing.
use native.Mathlib.Omega.{arith}
use Rattle.expression.proofs.Placing.{appends-sort}
use Rattle.division.proofs.list_quotient_sorted.Goals as goal

pub returns : goal.returns
returns c =
    appends-sort c.list_quotient-k.ensures (omega arith) c.sort_part.ensures
