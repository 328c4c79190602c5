-- The answers of `blif_read::defining::define`.
use mathlib.Core.Path.{◌∙◌, subst}
use Rattle.blif_laws.specs.Text.{Name}
use Rattle.blif_lines.specs.Marking.{Raised}
use Rattle.blif_read.specs.Defining.{number_if}
use Rattle.blif_read.proofs.Counting.{tally-next, tally-done}
use Rattle.blif_read.proofs.defining.define.Goals as goal

pub loop-b-preserved : goal.loop-b-preserved
loop-b-preserved c = (
  c.mark_name.ensures.size ∙ c.loop-b.invariant.0,
  λ m bs f b k. tally-next f (c.loop-b.invariant.1 m bs f b k) c.in-Some.ensures
      (λ b e r. subst (λ (a : Name). Raised c.args.base (number_if c.args.outputs a) c.loop-b.marks c.mark_name.new.marks) e c.mark_name.ensures),
)

pub returns : goal.returns
returns c = λ m bs f b k. tally-done f (c.loop-b.invariant.1 m bs f b k) c.in_default.ensures
