-- `report::put_steps` meets its contract. The loop's invariant: the lines of the steps that are left are due. Assumes nothing.
use mathlib.Core.List.{map}
use lib.ListN.{drop}
use Rattle.letters.proofs.Laying.{Due}
use Rattle.extract.specs.Answers.{made_in, made_of}
use Rattle.report.specs.Report.{step_lines}
use Rattle.report.proofs.put_steps.Given as goal

abbrev pub invariant-loop-s : goal.invariant-loop-s
invariant-loop-s l = Due l.initial.o l.initial.p (step_lines (made_in l.steps)) l.o l.p (step_lines (drop l.s-index (map made_of l.s-items)))
