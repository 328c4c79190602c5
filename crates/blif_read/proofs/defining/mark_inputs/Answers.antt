-- The answers of `blif_read::defining::mark_inputs`.
use mathlib.Core.Path.{sym, ◌∙◌, ap, subst}
use native.Mathlib.Numerals.{add-one}
use Rattle.sets.{specs.Lists.from, proofs.Rows.from-snoc}
use Rattle.blif_lines.{specs.Marking.Raised, proofs.Marking.raised-none, proofs.Marking.raised-on}
use Rattle.blif_read.proofs.defining.mark_inputs.Goals as goal

pub loop-i-init : goal.loop-i-init
unfolding from
loop-i-init c = raised-none _ _

pub loop-i-preserved : goal.loop-i-preserved
loop-i-preserved c =
    subst (λ l. Raised c.args.base l c.args.marks.now c.mark.new.marks)
    (sym (from-snoc c.args.base c.loop-i.i) ∙ ap (from c.args.base) (sym (add-one c.loop-i.i)))
    (raised-on c.loop-i.invariant c.mark.ensures)
