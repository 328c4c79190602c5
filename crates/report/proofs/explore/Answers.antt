-- `report::explore` meets its contract: a network that follows the rules is run and counted, and so is what the run leaves. Assumes nothing.
use borrow.Author.Rules.{rules}
use Rattle.network.{specs.Handed.Shaped, proofs.Handing.shape_of}
use Rattle.extract_laws.specs.Run.{asked_steps}
use Rattle.extract.proofs.Telling.{ran-rules}
use Rattle.report.specs.Parts.{run_of}
use Rattle.report.proofs.Exploring.{never-refused, explored-steady, explored-text}
use Rattle.report.proofs.explore.Goals as goal
use Rattle.report.proofs.explore.Goals.{Start}

shape : (s : Start) → Shaped s.args.n
shape s = shape_of _ (search rules) (search rules)

pub unreachable-requires : goal.unreachable-requires
unreachable-requires c = never-refused _ (shape (goal.at.unreachable-requires c).Start) c.requires c.run-r.result c.run-r.ensures _ c.in_default.is

pub count_of-end-requires : goal.count_of-end-requires
count_of-end-requires c = ran-rules asked_steps _ _ (shape (goal.at.count_of-end-requires c).Start) c.requires c.run-r.ensures

pub invariant_of-result : goal.invariant_of-result
invariant_of-result c = record { steady = explored-steady _ (shape (goal.at.invariant_of-result c).Start) c.requires _ c.run-r.ensures }

pub returns : goal.returns
unfolding run_of
returns c =
    explored-text _ (shape (goal.at.returns c).Start) c.requires _ c.run-r.ensures _ _ _ c.in-Stopped.is c.count_of-start.ensures c.count_of-end.ensures
