-- The answers of `blif_read::build::marked`.
use mathlib.Core.Path.{refl, sym, ap, ap₂, ◌∙◌}
use mathlib.Core.{List.[], List.◌∷◌}
use native.Mathlib.Omega.{arith}
use borrow.Author.Tests.{le-leb, lt-leb}
use lib.ListN.{length, get_or, set, length-append}
use Rattle.sets.specs.Lists.{from}
use Rattle.network.specs.Answers.{padded}
use Rattle.blif_read.proofs.Putting.{marked_to, marked-few, marked-skip, marked_next, padded-next}
use Rattle.blif_read.proofs.build.marked.Goals as goal
use Rattle.blif_read.proofs.build.marked.Goals.{then-marks-v-gt0, else-marks-v-gt0}

pub loop-v-init : goal.loop-v-init
unfolding from
loop-v-init c = (omega arith, refl, refl)

pub loop-v-preserved : goal.loop-v-preserved
loop-v-preserved c =
    let marks = c.args.marks.now in
    let v = c.loop-v.v in
    elim c.if-marks-v-gt0.branch [
      | then-marks-v-gt0 w ↦
          let e = marked_next marks v (le-leb 1 (get_or marks v 0) w.if-marks-v-gt0.true) in (
            omega (arith, w.n-is),
            omega (arith, w.n-is, ap length e, length-append (marked_to marks v) (v ∷ [])),
            w.vars-is ∙ ap₂ (λ x k. set x k v) c.loop-v.invariant.2 c.loop-v.invariant.1 ∙ padded-next (marked_to marks v) v (omega (arith, marked-few marks v))
                ∙ ap padded (sym e),
          )
      | else-marks-v-gt0 w ↦
          let e = marked-skip marks v (lt-leb 1 (get_or marks v 0) (omega (arith, w.if-marks-v-gt0.false))) in (
            omega (arith, w.n-is),
            w.n-is ∙ c.loop-v.invariant.1 ∙ ap length (sym e),
            w.vars-is ∙ c.loop-v.invariant.2 ∙ ap padded (sym e),
          )
    ]
