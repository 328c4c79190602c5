-- `blif_lines::read_signs` meets its contract. The loop's invariant: the signs passed stand from `at` on, and are marked. Assumes nothing.
use Rattle.blif_lines.specs.Lining.{SignsGot}
use Rattle.blif_lines.proofs.read_signs.Given as goal

abbrev pub invariant-loop-i : goal.invariant-loop-i
invariant-loop-i l = SignsGot l.s l.at l.i l.base l.initial.marks l.marks l.p
