-- `extract_fit::is_pair` meets its contract: the two numbers, the opposite of the smaller and the variable of the greater are compared. Assumes nothing.
use Rattle.std.proofs.Common.{arith}
use Rattle.std.proofs.lemmas.Bool.Decides.{nat_tests}
use Rattle.extract_fit.proofs.Fitting.{pair-tests}
use Rattle.extract_fit.proofs.is_pair.Goals as goal

pub returns-then-opposite-q : goal.returns-then-opposite-q
returns-then-opposite-q c = rw pair-tests (grind (arith, nat_tests))

pub returns-else-opposite-q : goal.returns-else-opposite-q
returns-else-opposite-q c = rw pair-tests (grind (arith, nat_tests))
