-- `extract_partners::left_at` meets its contract. Assumes nothing.
use mathlib.Core.Path.{◌∙◌, ap₂}
use Rattle.sets.specs.Sets.{without}
use Rattle.extract_partners.specs.Table.{left_at}
use Rattle.extract_partners.proofs.left_at.Goals as goal

pub returns : goal.returns
unfolding left_at
returns c =
    c.without.ensures ∙ ap₂ without
    c.cube_at.ensures
    c.part_at.ensures
