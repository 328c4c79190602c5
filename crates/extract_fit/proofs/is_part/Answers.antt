-- `extract_fit::is_part` meets its contract: its literals are counted, then both ways and the variables. Assumes nothing.
use Rattle.std.proofs.Common.{arith}
use Rattle.std.proofs.lemmas.Bool.Decides.{nat_tests}
use Rattle.extract_laws.specs.Divisor.{small}
use Rattle.extract_fit.proofs.is_part.Goals as goal

pub returns-then-is_proper : goal.returns-then-is_proper
unfolding small
returns-then-is_proper c = grind (arith, nat_tests)

pub returns-else-is_proper : goal.returns-else-is_proper
unfolding small
returns-else-is_proper c = grind (arith, nat_tests)
