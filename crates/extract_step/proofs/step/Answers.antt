-- `extract_step::step` meets its contract: the step of the struct's own words and counts. Assumes nothing.
use Rattle.network.proofs.Handing.{shape_of}
use borrow.Author.Rules.{rules}
use Rattle.extract_step.proofs.step.Goals as goal

pub returns : goal.returns
returns c = c.step_in.ensures.shaped (shape_of _ (search rules) (search rules))
