-- `network_listing::both` meets its contract: the variable is one of those of a cube. Assumes nothing.
use mathlib.Core.{Path.◌∙◌, Path.ap, Bool.true, Bool.false}
use Rattle.sets.specs.Sets.{insert}
use Rattle.network_known.{specs.Known.signed, proofs.Knowing.joined-signed}
use Rattle.network_listing.proofs.both.Goals as goal

pub returns : goal.returns
returns c =
    let v = c.args.v in
    c.valued-2.ensures ∙ joined-signed v false _ c.requires ∙ ap (insert (signed v false)) (c.valued.ensures ∙ joined-signed v true _ c.requires)
