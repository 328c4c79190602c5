-- `node::length_of` meets its contract: the length of what was written. Assumes nothing.
use Rattle.std.proofs.Common.{sym, refl, ap, ◌∙◌}
use Rattle.spindle.proofs.Columns.{told, length-told}
use Rattle.spindle.proofs.node.length_of.Goals as goal

pub returns-in-Bytes : goal.returns-in-Bytes
returns-in-Bytes c = ap told (sym c.in-Bytes.is) ∙ length-told _ _ _ _ refl c.factored.ensures

pub returns-in_default-2 : goal.returns-in_default-2
returns-in_default-2 c = ap told (sym c.in_default.is) ∙ length-told _ _ _ _ refl c.factored.ensures
