-- The answers of `network_nodes::start`, whose loop's invariant stands beside. Assumes nothing.
use Prim.Native.Nat.{◌+◌}
use mathlib.Core.Path.{◌≡◌, ap}
use native.Mathlib.Omega.{arith}
use Rattle.network_nodes.proofs.Starting.{left-next, left_none}
use Rattle.network_nodes.proofs.start.Goals as goal

pub returns-then-n-most : goal.returns-then-n-most
returns-then-n-most c = omega (arith, c.loop-n.invariant.1, left-next _ _ _ c.in-Some.ensures.steps)

pub loop-n-preserved : goal.loop-n-preserved
loop-n-preserved c = (omega arith, omega (arith, c.loop-n.invariant.1, left-next _ _ _ c.in-Some.ensures.steps))

pub returns : goal.returns
returns c = omega (arith, c.loop-n.invariant, left_none c.loop-n.n-iterator.n _ (λ h. (c.in-None.ensures.steps h).0))
