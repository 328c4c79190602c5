-- `network_evaluate::step` meets its contract: the node has value 1 where a cube has only true literals. Assumes nothing.
use mathlib.Core.Path.{◌≡◌, ◌∙◌, ap}
use mathlib.Core.List.{[]}
use native.Mathlib.Omega.{arith}
use lib.ListN.{get_or}
use Rattle.sets.specs.Sets.{insert}
use Rattle.cube.specs.Cube.{lits}
use Rattle.expression.specs.Words.{cubes_of}
use Rattle.network_nodes.specs.Nodes.{cut}
use Rattle.network.specs.Held.{place_at}
use Rattle.network_known.{specs.Known.signed, specs.Known.some_within, proofs.Knowing.joined-signed}
use Rattle.network_evaluate.proofs.step.Goals as goal

pub returns : goal.returns
returns c =
    let a = c.args in
    let n = a.n.now in
    let t = lits a.t in
    let p : c.place_of-i.result ≡ place_at n.inputs n.outputs a.v = omega (arith, c.place_of-i.ensures, c.requires) in
    c.valued.ensures
    ∙ joined-signed a.v c.within-b.result t c.requires.1
    ∙ ap (λ b. insert (signed a.v b) t)
    (c.within-b.ensures ∙ ap (some_within t) (c.node.ensures.0 ∙ ap (λ i. get_or (cut n.counts (cubes_of n.words)) i []) p))
