-- `extract_gains::find` meets its contract. The loop's invariant: the search stands in the chain of the key, and every entry passed has
-- another one. The measure is the place, which falls. Assumes nothing.
use Rattle.extract_gains.specs.{Parts.Chained}
use Rattle.extract_gains.proofs.Chains.{Reached}
use Rattle.extract_gains.proofs.find.Given as goal

abbrev pub invariant-loop-at : goal.invariant-loop-at
invariant-loop-at l = Chained l.t → Reached l.t l.key l.at

abbrev pub decreases-loop-at : goal.decreases-loop-at
decreases-loop-at l = l.at
