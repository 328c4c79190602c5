-- The answers of `blif_write::put_names`.
use mathlib.Core.Path.{refl, ◌∙◌}
use native.Mathlib.Omega.{arith}
use Rattle.letters.proofs.Laying.{due_all, due-as, due-next, due-done}
use Rattle.blif_write.proofs.Walking.{names-all, names-next, names-none}
use Rattle.blif_write.proofs.put_names.Goals as goal

pub loop-i-init : goal.loop-i-init
loop-i-init c = (due_all _ _ (omega arith) (omega arith) (names-all _ _), refl)

pub loop-i-preserved : goal.loop-i-preserved
loop-i-preserved c =
    let next = due-as c.loop-i.invariant.0 (names-next _ _ c.loop-i.i c.loop-i-test.true) in
    (due-next next c.put_word-p.ensures, c.put_word-p.auto.o ∙ c.loop-i.invariant.1)

pub returns : goal.returns
returns c = due-done (due-as c.loop-i.invariant.0 (names-none _ _ c.loop-i.i (omega arith)))
