-- The answers of `network_hangs::often`.
use Rattle.network_hangs.proofs.Reading.{makes-first, makes-more}
use Rattle.network_hangs.proofs.often.Goals as goal

pub loop-init : goal.loop-init
loop-init c = makes-first _ _

pub loop-preserved : goal.loop-preserved
loop-preserved c = makes-more _ c.loop.counter c.loop.invariant c.once-all.ensures
