-- The answers of `blif_write::put_reads`.
use mathlib.Core.Path.{refl, ◌∙◌, ap}
use mathlib.Core.List.{List, map}
use Prim.Native.Nat.{ℕ}
use native.Mathlib.Omega.{arith}
use Rattle.letters.specs.Letters.{name_text}
use Rattle.letters.proofs.Laying.{due_all, due-as, due-next, due-done}
use Rattle.blif_write.specs.Parts.{led}
use Rattle.blif_write.proofs.Walking.{plains_all, plains-none, read_next}
use Rattle.blif_write.proofs.put_reads.Goals as goal

-- the names of variables
abbrev named : List ℕ → List ℕ
named l = led (map (name_text 120) l)

pub loop-v-init : goal.loop-v-init
loop-v-init c = (due_all _ _ (omega arith) (omega arith) (ap named (plains_all _)), refl)

pub loop-v-preserved : goal.loop-v-preserved
loop-v-preserved c =
    let next = due-as c.loop-v.invariant.0 (read_next _ c.loop-v.v c.loop-v-test.true) in
    (due-next next c.put_read-p.ensures, c.put_read-p.auto.o ∙ c.loop-v.invariant.1)

pub returns : goal.returns
returns c = due-done (due-as c.loop-v.invariant.0 (ap named (plains-none _ c.loop-v.v (omega arith))))
