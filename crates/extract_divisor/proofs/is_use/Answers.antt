-- `extract_divisor::is_use` meets its contract: what it tests, one after the other. Assumes nothing.
use Rattle.std.proofs.Common.{arith}
use Rattle.std.proofs.lemmas.Grind.{common_steps}
use Rattle.sets.proofs.Sets.{meet-none}
use Rattle.extract_divisor.specs.Divisor.{found_use}
use Rattle.extract_divisor.proofs.is_use.Goals as goal

pub returns-then-not-contains : goal.returns-then-not-contains
unfolding found_use
returns-then-not-contains c = grind (arith, common_steps)

pub returns-else-is_empty : goal.returns-else-is_empty
unfolding found_use
returns-else-is_empty c = grind (arith, common_steps, meet-none)

pub returns-then-is_empty : goal.returns-then-is_empty
unfolding found_use
returns-then-is_empty c = grind (arith, common_steps, meet-none)
