-- `extract_keep::renew` meets its contract: where the table has no room it is filled anew. Assumes nothing.
use mathlib.Core.Path.{sym, ◌∙◌}
use borrow.Author.Rules.{rules}
use Rattle.network.proofs.Handing.{shape_of}
use Rattle.extract_keep.proofs.renew.Goals as goal

pub renew_nodes-requires : goal.renew_nodes-requires
renew_nodes-requires c = (shape_of _ (search rules) (search rules), shape_of _ (search rules) (search rules), sym c.is_arranged.ensures ∙ c.if-not-is_arranged.false, sym c.is_arranged-2.ensures ∙ c.if-not-is_arranged-2.false)
