-- `extract_step::Source::is_gone` meets its contract: a pair has one test, a sum one for each part. Assumes nothing.
use Rattle.std.proofs.Common.{arith}
use Rattle.std.proofs.lemmas.Grind.{common_steps}
use Rattle.extract_divisor.proofs.Using.{found-use}
use Rattle.extract_step.proofs.Source.is_gone.Goals as goal

pub returns-then-is_use : goal.returns-then-is_use
returns-then-is_use c = grind (arith, common_steps, found-use)

pub returns-else-is_use : goal.returns-else-is_use
returns-else-is_use c = grind (arith, common_steps, found-use)
