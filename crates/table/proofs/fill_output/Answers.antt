-- `table::fill_output` meets its contract: the cubes picked are absorbed and sorted in place, and the places left over emptied. Assumes nothing.
use Prim.Native.Nat.{◌+◌, ◌≤◌}
use native.Mathlib.Omega.{arith}
use Rattle.expression.proofs.Words.{spare-length}
use Rattle.table.proofs.Building.{end-inside, kept-few, filled}
use Rattle.table.proofs.fill_output.Goals as goal
use Rattle.table.proofs.fill_output.Goals.{After-absorb_part}

-- no more cubes are left than were put
few : (b : After-absorb_part) → b.args.at + b.absorb_part.result ≤ b.collect-e.result
few b = kept-few b.requires b.collect-e.ensures b.absorb_part.ensures.number b.absorb_part.ensures.cubes

pub overflow_add-to : goal.overflow_add-to
overflow_add-to c =
    record { fits = omega (arith, few (goal.at.overflow_add-to c).After-absorb_part, end-inside c.requires c.collect-e.ensures, spare-length c.args.out.now) }

pub returns : goal.returns
returns c =
    filled c.requires c.collect-e.ensures c.absorb_part.ensures.number c.absorb_part.ensures.cubes c.sort_part.ensures c.clear.ensures
