-- `network_hangs::alone` meets its contract: the plain literal of the variable is one of a cube's. Assumes nothing.
use mathlib.Core.Path.{◌≡◌, ◌∙◌, ap}
use native.Mathlib.Omega.{arith}
use Rattle.sets.specs.Literal.{plain_of}
use Rattle.cube.specs.Cube.{lits, joined}
use Rattle.network_reads.proofs.Marking.{marks-single}
use Rattle.network_hangs.proofs.alone.Goals as goal

pub returns : goal.returns
returns c =
    let q : c.plain.result.0 ≡ plain_of c.args.v = omega (arith, c.plain.ensures, c.requires) in
    marks-single c.args.v c.requires c.empty.ensures (c.with.ensures ∙ ap (λ x. joined x (lits c.empty.result)) q)
