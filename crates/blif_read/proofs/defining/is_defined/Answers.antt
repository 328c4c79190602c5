-- `blif_read::is_defined` meets its contract: blocks and inputs are counted in marks that are zero at first. Assumes nothing.
use mathlib.Core.Path.{◌∙◌}
use Rattle.blif_lines.{specs.Marking.window, proofs.Windows.window-once}
use Rattle.blif_read.specs.Defining.{defined_by}
use Rattle.blif_read.proofs.defining.is_defined.Goals as goal

pub returns : goal.returns
returns c = λ m bs f b k.
    c.all_once.ensures ∙ window-once window c.requires (defined_by c.args.outputs bs) _
    (c.define.ensures m bs f b k) c.mark_inputs.ensures
