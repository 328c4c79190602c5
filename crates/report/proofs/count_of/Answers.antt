-- `report::count_of` meets its contract: the literals of a network by the rules are its literal count. Assumes nothing.
use mathlib.Core.Path.{◌∙◌}
use borrow.Author.Rules.{rules}
use Rattle.network.proofs.Handing.{shape_of}
use Rattle.network_rules.proofs.Ruling.{within_count}
use Rattle.report.proofs.count_of.Goals as goal

pub returns : goal.returns
returns c =
    c.literals_within.ensures ∙ within_count c.args.n (shape_of _ (search rules) (search rules)) c.requires
