-- `blif_read::mark_inputs` meets its contract. The loop's invariant: the numbers passed are marked. Assumes nothing.
use Rattle.sets.specs.Lists.{from}
use Rattle.blif_lines.specs.Marking.{Raised}
use Rattle.blif_read.proofs.defining.mark_inputs.Given as goal

abbrev pub invariant-loop-i : goal.invariant-loop-i
invariant-loop-i l = Raised l.base (from l.base l.i) l.initial.marks l.marks
