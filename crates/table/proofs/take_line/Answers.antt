-- `table::take_line` meets its contract: each kind of line has its function. Assumes nothing.
use mathlib.Core.Path.{◌∙◌, sym}
use Rattle.table.proofs.take_line.Goals as goal

pub returns-in-Empty : goal.returns-in-Empty
returns-in-Empty c = λ t g h. rw (sym c.kind_of.ensures ∙ c.in-Empty.is) (h)

pub returns-in-Inputs : goal.returns-in-Inputs
returns-in-Inputs c = λ t g h. rw (sym c.kind_of.ensures ∙ c.in-Inputs.is) (c.set_inputs.ensures t _ _ g h)

pub returns-in-Outputs : goal.returns-in-Outputs
returns-in-Outputs c = λ t g h. rw (sym c.kind_of.ensures ∙ c.in-Outputs.is) (c.set_outputs.ensures t _ _ g h)

pub returns-in-Products : goal.returns-in-Products
returns-in-Products c = λ t g h. rw (sym c.kind_of.ensures ∙ c.in-Products.is) (c.set_stated.ensures t _ _ g h)

pub returns-in-End : goal.returns-in-End
returns-in-End c = λ t g h. rw (sym c.kind_of.ensures ∙ c.in-End.is) (c.finish.ensures t _ _ g h)

pub returns-in-Other : goal.returns-in-Other
returns-in-Other c =
    λ t g h. rw (sym c.kind_of.ensures ∙ c.in-Other.is) (c.add_line.ensures t g h)
