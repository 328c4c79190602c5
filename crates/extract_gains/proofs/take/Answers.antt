-- `extract_gains::take` meets its contract: nothing changes, an entry's gain falls, or the table is full. Assumes nothing.
use native.Mathlib.Omega.{arith}
use Rattle.extract_gains.proofs.Changing.{turns-fall, turns-short}
use Rattle.extract_gains.proofs.take.Goals as goal

pub returns-in-Some : goal.returns-in-Some
returns-in-Some c =
    turns-fall c.args.key c.in-Some.e c.args.by c.checked_sub.result c.in-Some.ensures.0 (omega (arith, c.if-by-eq0.false))
    c.in-Some.ensures.1 c.checked_sub.ensures c.set.ensures

pub returns-in-None : goal.returns-in-None
returns-in-None c = turns-short c.args.key c.args.by (omega (arith, c.give_up.ensures)) (omega (arith, c.if-by-eq0.false))
