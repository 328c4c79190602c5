-- `blif_read::is_blif` meets its contract: whether the keyword was found tells. Assumes nothing.
use mathlib.Core.Path.{◌∙◌}
use Rattle.letters_products.specs.Spelled.{spelled}
use Rattle.blif_read.proofs.Telling.{begun-told}
use Rattle.blif_read.proofs.is_blif.Goals as goal

pub returns : goal.returns
unfolding spelled
returns c = c.is_some.ensures ∙ begun-told c.args.text.now c.keyword.result c.keyword.ensures
