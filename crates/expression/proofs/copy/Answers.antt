-- `expression::copy` meets its contract: a part is copied whole. Assumes nothing.
use mathlib.Core.Path.{ap}
use Rattle.expression.specs.Words.{fitting}
use Rattle.expression.proofs.{Placing.placed-as}
use Rattle.expression.proofs.copy.Goals as goal

pub returns : goal.returns
returns c =
    placed-as (ap (fitting c.args.to.now c.args.at) c.part.ensures.0) c.copy_whole.ensures
