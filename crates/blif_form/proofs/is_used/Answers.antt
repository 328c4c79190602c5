-- `blif_form::is_used` meets its contract: the marks are cleared, the rows raise them, and those that are met are the columns used.
-- Assumes nothing.
use mathlib.Core.Path.{sym, ◌∙◌}
use Rattle.blif_form.proofs.Columns.{window-here}
use Rattle.blif_form.proofs.is_used.Goals as goal

pub returns-then-is_some : goal.returns-then-is_some
returns-then-is_some c = (
  λ ws more h. c.all_met.ensures
      ∙ window-here c.args.s.now c.args.at c.args.r c.args.base c.read_rows.new.marks c.read_rows.result (sym c.is_some.ensures ∙ c.if-is_some.true) c.requires c.clear.ensures c.read_rows.ensures ws more h,
  c.read_rows.auto.marks ∙ c.clear.ensures.size,
)
