-- `extract_rank::is_before` meets its contract: what a comparison says. Assumes nothing.
use Rattle.std.proofs.Common.{arith}
use Rattle.std.proofs.lemmas.Grind.{common_steps}
use Rattle.cube.{specs.Cube.order_of}
use Rattle.extract_rank.proofs.is_before.Goals as goal

pub returns : goal.returns
unfolding order_of
returns c = grind (arith, common_steps)
