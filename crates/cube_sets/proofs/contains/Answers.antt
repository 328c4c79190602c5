-- `cube_sets::contains` meets its contract. Assumes nothing.
use Rattle.sets.{specs.Lists.is_nil, proofs.Sets.without-none}
use mathlib.Core.Path.{◌∙◌, ap}
use Rattle.cube_sets.proofs.contains.Goals as goal

pub returns : goal.returns
returns c = c.is_empty.ensures ∙ ap is_nil c.without.ensures ∙ without-none _ _
