-- The answers of `network_listing::below`.
use Rattle.network_known.proofs.Knowing.{spans-none, spans-input}
use Rattle.network_listing.proofs.below.Goals as goal

pub loop-v-init : goal.loop-v-init
loop-v-init c = spans-none c.empty-c.ensures

pub loop-v-preserved : goal.loop-v-preserved
loop-v-preserved c = spans-input c.loop-v.v _ _ c.both-c.ensures c.loop-v.invariant
