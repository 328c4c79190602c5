-- `network_hangs::asked` meets its contract: the plain literal of the divisor decides. Assumes nothing.
use mathlib.Core.Path.{◌≡◌, sym, ap, ◌∙◌, subst}
use native.Mathlib.Omega.{arith}
use mathlib.Core.List.{[]}
use lib.ListN.{get_or}
use Rattle.expression.specs.Words.{cubes_of}
use Rattle.network_nodes.specs.Nodes.{cut}
use Rattle.network.specs.Held.{place_at}
use Rattle.cube.specs.Cube.{lits}
use Rattle.network_reads.specs.Reading.{reads_of, Marks}
use Rattle.network_hangs.proofs.{Marking.asked-yes, Marking.asked-no}
use Rattle.network_hangs.proofs.asked.Goals as goal

pub returns-then-not-has_plain : goal.returns-then-not-has_plain
returns-then-not-has_plain c = asked-no _ _ (sym c.has_plain.ensures ∙ c.if-not-has_plain.true) c.empty.ensures

pub returns : goal.returns
returns c =
    let n = c.args.n.now in
    let q : c.place_of-i.result ≡ place_at n.inputs n.outputs c.args.v = omega (arith, c.place_of-i.ensures, c.requires) in
    asked-yes c.args.v _ (sym c.has_plain.ensures ∙ c.if-not-has_plain.false)
    (subst (λ f. Marks (lits c.reads.result) (reads_of f)) (c.node.ensures.0 ∙ ap (λ i. get_or (cut n.counts (cubes_of n.words)) i []) q) c.reads.ensures)
