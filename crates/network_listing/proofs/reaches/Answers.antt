-- `network_listing::reaches` meets its contract: the cubes of all nodes are tested at once. Assumes nothing.
use Prim.Native.Nat.{◌+◌, ◌/◌}
use mathlib.Core.Path.{sym, ◌∙◌, ap}
use lib.Dec.{ltb}
use lib.ListN.{take}
use Rattle.sets.specs.Lists.{all}
use Rattle.expression.specs.Words.{cubes_of}
use Rattle.network.{specs.Held.reach, proofs.Holding.cut_all}
use Rattle.network_listing.proofs.Reaching.{within-reach}
use Rattle.network_listing.proofs.reaches.Goals as goal

pub returns : goal.returns
returns c =
    let n = c.args.n.now in
    let v = n.inputs + n.divisors in
    c.within.ensures
    ∙ within-reach v _ c.below.ensures (cubes_of c.front-nodes.result.now)
    ∙ ap (reach v) c.front-nodes.ensures.0
    ∙ sym (cut_all (all (λ l. ltb (l / 2) v)) (take (n.outputs + n.divisors) n.counts) (cubes_of n.words))
