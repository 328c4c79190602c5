-- `extract_gains::head_of` meets its contract, by what the place of a head is. Assumes nothing.
use native.Mathlib.Omega.{arith}
use borrow.Author.Rules.{rules}
use Rattle.extract_gains.specs.Gains.{head_of}
use Rattle.extract_gains.proofs.head_of.Goals as goal

pub returns-clause-is : goal.returns-clause-is
unfolding head_of
returns-clause-is c = search rules

pub returns-clause-within : goal.returns-clause-within
unfolding head_of
returns-clause-within c = omega arith
