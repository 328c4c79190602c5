-- `network_hangs::found` meets its contract: what the node reads, what is reached from it, and of that the divisors. Assumes nothing.
use native.Mathlib.Omega.{arith}
use Rattle.network_hangs.proofs.{Finding.found-marks}
use Rattle.network_hangs.proofs.found.Goals as goal

pub above-requires : goal.above-requires
above-requires c = omega (arith, c.requires.0.variables)

pub returns : goal.returns
returns c =
    found-marks c.requires.0 c.requires.1 c.node.ensures.0 c.reads-direct.ensures c.often.ensures c.above.ensures
