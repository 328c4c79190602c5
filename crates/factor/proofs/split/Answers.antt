-- `factor::split` meets its contract: gathered, and the rest copied back. Assumes nothing.
use native.Mathlib.Omega.{arith}
use Rattle.expression.proofs.Words.{same-room}
use Rattle.factor.proofs.Parting.{copied-back}
use Rattle.factor.proofs.split.Goals as goal

pub overflow_sub-others : goal.overflow_sub-others
overflow_sub-others c = omega (arith, c.gather-m.ensures.most, c.number.ensures, same-room c.gather-m.new.w c.args.w.now c.gather-m.auto.w)

pub returns : goal.returns
returns c =
    let w = same-room c.gather-m.new.w c.args.w.now c.gather-m.auto.w in
    let s = same-room c.gather-m.new.spare c.args.spare.now c.gather-m.auto.spare in
    copied-back c.gather-m.ensures (omega (arith, c.number.ensures, w)) c.copy.ensures w (omega (arith, s, c.requires.1))
