-- The answers of `network_evaluate::given`.
use mathlib.Core.Path.{◌∙◌, ap}
use native.Mathlib.Omega.{arith}
use Rattle.sets.{specs.Masks.bit, proofs.Digits.bit_test}
use Rattle.cube.specs.Cube.{lits, joined}
use Rattle.network_known.specs.Known.{signed}
use Rattle.network_known.proofs.Knowing.{joined-signed, truths-none, truths-input}
use Rattle.network_evaluate.proofs.given.Goals as goal

pub loop-v-init : goal.loop-v-init
loop-v-init c = truths-none _ c.empty-c.ensures

pub loop-v-preserved : goal.loop-v-preserved
loop-v-preserved c =
    let s = c.args.setting in
    let l = c.loop-v in
    truths-input l.v (bit s)
    (c.valued-c.ensures ∙ ap (λ b. joined (signed l.v b) (lits l.c)) (bit_test s l.v) ∙ joined-signed l.v (bit s l.v) (lits l.c) (omega arith))
    l.invariant
