-- `expression::put_cube` meets its contract: the two words of a cube are stored. Assumes nothing.
use native.Mathlib.Omega.{arith}
use lib.ListN.{length-set}
use Rattle.expression.proofs.Words.{cubes-set, spare-set, put-past}
use Rattle.expression.proofs.put_cube.Goals as goal

pub bounds-s-i-then-i-s : goal.bounds-s-i-then-i-s
bounds-s-i-then-i-s c = simp length-set (omega arith)

pub returns-then-i-s : goal.returns-then-i-s
returns-then-i-s c = record { cubes = cubes-set _ _ _ _ (omega arith); spare = spare-set _ _ _ _ (omega arith) }

pub returns-else-i-s : goal.returns-else-i-s
returns-else-i-s c = put-past _ _ _ (omega arith)
