-- `image_read::is_below` meets its contract. Assumes nothing.
use mathlib.Core.Path.{◌≡◌, ◌∙◌}
use mathlib.Core.Bool.{not}
use borrow.Author.Rules.{rules}
use Rattle.cube.specs.Cube.{lits}
use Rattle.sets.specs.{Lists.is_some, Sets.first_from}
use Rattle.image_read.proofs.{Testing.first_below}
use Rattle.image_read.proofs.fields.is_below.Goals as goal

pub returns : goal.returns
returns c =
    let e : c.is_none.result ≡ not (is_some (first_from c.args.l.0 (lits c.args.c))) = search rules in
    e ∙ first_below _ _
