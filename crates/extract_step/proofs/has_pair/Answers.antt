-- `extract_step::has_pair` meets its contract: it asks for one literal, then for the other. Assumes nothing.
use Rattle.std.proofs.Common.{arith}
use Rattle.std.proofs.lemmas.Grind.{common_steps}
use Rattle.sets.specs.Sets.{sub}
use Rattle.extract_step.proofs.has_pair.Goals as goal

pub returns-then-has : goal.returns-then-has
unfolding sub
returns-then-has c = grind (arith, common_steps)

pub returns-else-has : goal.returns-else-has
unfolding sub
returns-else-has c = grind (arith, common_steps)
