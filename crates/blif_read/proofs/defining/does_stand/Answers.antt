-- `blif_read::does_stand` meets its contract: a number of the window stands where its mark, at first zero, is not. Assumes nothing.
use mathlib.Core.Path.{◌∙◌}
use Rattle.blif_lines.{specs.Marking.window, proofs.Windows.window-met}
use Rattle.blif_form.specs.Surveying.{named_by}
use Rattle.blif_read.proofs.defining.does_stand.Goals as goal

pub returns : goal.returns
returns c = λ m bs f b k.
    c.all_met.ensures ∙ window-met window c.requires (named_by bs) (c.stand.ensures m bs f b k)
