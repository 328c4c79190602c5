-- `before::reach` meets its contract: the lines up to the one that is looked for are gone through in turn. Assumes nothing.
use Rattle.spindle.proofs.Reaching.{Walks}
use Rattle.spindle.proofs.before.reach.Given as goal

abbrev pub invariant-loop-i : goal.invariant-loop-i
invariant-loop-i l = Walks l.text l.line l._i l.at l.seen
