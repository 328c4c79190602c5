-- `before::after` meets its contract. Assumes nothing.
use Rattle.std.proofs.Common.{ap, ◌∙◌}
use Rattle.table_kinds.specs.Kinds.{kind_of}
use Rattle.spindle.specs.Before.{by_kind}
use Rattle.spindle.proofs.before.after.Goals as goal

pub returns : goal.returns
returns c = c.by_kind.ensures ∙ ap (by_kind _) (c.kind_of.ensures ∙ ap kind_of c.content.ensures)
