-- The answers of `blif_read::build::read_signs`.
use native.Mathlib.Omega.{arith}
use Rattle.blif_read.proofs.Putting.{signs-first, signs-next, signs-some, signs-all}
use Rattle.blif_read.proofs.build.read_signs.Goals as goal

pub loop-v-init : goal.loop-v-init
loop-v-init c = λ w t g n e. signs-first _ e c.empty-c.ensures

pub returns-in_default : goal.returns-in_default
returns-in_default c w t g n e = absurd (signs-some n (c.loop-v.invariant w t g n e) (omega arith) c.in_default.ensures)

pub loop-v-preserved : goal.loop-v-preserved
loop-v-preserved c = λ w t g n e.
    signs-next n (c.loop-v.invariant w t g n e) g (omega arith) c.in-Some.ensures.0 c.with_sign-c.ensures

pub returns : goal.returns
returns c w t g n e = signs-all n (c.loop-v.invariant w t g n e) (omega arith)
