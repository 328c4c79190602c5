-- The answers of `network_hangs::above`.
use Rattle.network_hangs.proofs.{Marking.above-first, Marking.above-next}
use Rattle.network_hangs.proofs.above.Goals as goal

pub loop-v-init : goal.loop-v-init
loop-v-init c = above-first _

pub loop-v-preserved : goal.loop-v-preserved
loop-v-preserved c = above-next c.loop-v.v c.alone.ensures c.without-left.ensures c.loop-v.invariant
