-- The answers of `blif_write::put_signs`.
use mathlib.Core.Path.{refl, ◌∙◌, ap}
use mathlib.Core.List.{map}
use native.Mathlib.Omega.{arith}
use Rattle.letters.proofs.Laying.{due_all, due-as, due-next, due-done}
use Rattle.blif_write.proofs.Walking.{plains_all, plains-none, sign-next}
use Rattle.blif_write.proofs.put_signs.Goals as goal

pub loop-v-init : goal.loop-v-init
loop-v-init c = (due_all _ _ (omega arith) (omega arith) (ap (map _) (plains_all _)), refl)

pub loop-v-preserved : goal.loop-v-preserved
loop-v-preserved c =
    let next = due-as c.loop-v.invariant.0 (sign-next _ _ c.loop-v.v c.loop-v-test.true) in
    (due-next next c.put_sign-p.ensures, c.put_sign-p.auto.o ∙ c.loop-v.invariant.1)

pub returns : goal.returns
returns c = due-done (due-as c.loop-v.invariant.0 (ap (map _) (plains-none _ c.loop-v.v (omega arith))))
