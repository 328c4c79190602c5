-- `cokernel::list_beyond` ends: the literals that are left fall. Assumes nothing.
use Prim.Native.Nat.{◌-◌, ◌*◌}
use Rattle.cube.specs.Cube.{width}
use Rattle.cokernel.proofs.+list_beyond.Given as goal

abbrev pub decreases-list_beyond : goal.decreases-list_beyond
decreases-list_beyond l = 2 * width - l.j
