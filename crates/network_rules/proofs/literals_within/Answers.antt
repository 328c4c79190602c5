-- `network_rules::literals_within` meets its contract: the limits, and then the cubes in use. Assumes nothing.
use mathlib.Core.Path.{sym, ◌∙◌}
use Rattle.network.{proofs.Handing.shape_of, proofs.Limits.sized-out}
use Rattle.network_rules.specs.Parts.{literals_within}
use borrow.Author.Rules.{rules}
use Rattle.network_rules.proofs.literals_within.Goals as goal

pub returns-then-not-is_within : goal.returns-then-not-is_within
unfolding literals_within
returns-then-not-is_within c = rw (sym c.is_within.ensures ∙ c.if-not-is_within.true)

pub count-requires : goal.count-requires
count-requires c = sized-out c.args.n (shape_of _ (search rules) (search rules)) (sym c.is_within.ensures ∙ c.if-not-is_within.false)

pub returns : goal.returns
unfolding literals_within
returns c = rw (sym c.is_within.ensures ∙ c.if-not-is_within.false) c.count.ensures
