-- `report::find` meets its contract: the refusal of a table, or the run on its network. Assumes nothing.
use mathlib.Core.Path.{◌∙◌}
use Rattle.report.proofs.Finding.{found-refusal, found-rules, found-run}
use Rattle.report.proofs.find.Goals as goal

pub explore-requires : goal.explore-requires
explore-requires c = found-rules _ _ c.read-t.ensures c.in-Read.is

pub returns-in-Read : goal.returns-in-Read
returns-in-Read c = c.explore.ensures ∙ found-run _ _ c.read-t.ensures c.in-Read.is

pub returns-in-Refused : goal.returns-in-Refused
returns-in-Refused c = found-refusal _ _ c.read-t.ensures _ c.in-Refused.is
