-- `expression::number` meets its contract: two words make a cube. Assumes nothing.
use mathlib.Core.Path.{sym}
use Rattle.expression.proofs.{Words.cubes-length}
use Rattle.expression.proofs.number.Goals as goal

pub returns : goal.returns
returns c = sym (cubes-length _)
