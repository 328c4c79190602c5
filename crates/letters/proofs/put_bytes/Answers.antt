-- The answers of `letters::put_bytes`.
use Rattle.sets.proofs.Places.{drop-next}
use Rattle.letters.proofs.Laying.{due-as, due-next}
use Rattle.letters.proofs.put_bytes.Goals as goal

pub loop-b-preserved : goal.loop-b-preserved
loop-b-preserved c = due-next (due-as c.loop-b.invariant (drop-next c.args.s.now c.loop-b.b-index 0 c.loop-b-test.true)) c.put-p.ensures
