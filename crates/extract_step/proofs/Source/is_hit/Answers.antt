-- `extract_step::Source::is_hit` meets its contract: each kind of divisor has its test. Assumes nothing.
use Rattle.std.proofs.Common.{arith}
use Rattle.std.proofs.lemmas.Grind.{common_steps}
use Rattle.extract_divisor.proofs.Using.{found-use}
use Rattle.extract_step.proofs.Source.is_hit.Goals as goal

pub returns-in-Sum : goal.returns-in-Sum
returns-in-Sum c = grind (arith, common_steps, found-use)
