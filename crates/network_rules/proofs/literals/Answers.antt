-- `network_rules::literals` meets its contract: it answers by the rules, and then counts the cubes in use. Assumes nothing.
use mathlib.Core.Path.{◌≡◌, sym, ◌∙◌}
use mathlib.Core.Bool.{true}
use Rattle.network.{specs.Held.rules, specs.Handed.Shaped, proofs.Handing.shape_of}
use Rattle.network_rules.proofs.{Ruling.counted-no, Ruling.counted_is}
use borrow.Author.Rules.{rules as steps}
use Rattle.network_rules.proofs.literals.Goals as goal
use Rattle.network_rules.proofs.literals.Goals.{Else-not-follows}

kept : (c : Else-not-follows) → rules c.args.n ≡ true
kept c = sym c.follows.ensures ∙ c.if-not-follows.false

shape : (c : Else-not-follows) → Shaped c.args.n
shape c = shape_of _ (search steps) (search steps)

pub returns-then-not-follows : goal.returns-then-not-follows
returns-then-not-follows c = counted-no c.args.n (sym c.follows.ensures ∙ c.if-not-follows.true)

pub returns : goal.returns
returns c = counted_is c.args.n (shape (goal.at.returns c).Else-not-follows) _ (kept (goal.at.returns c).Else-not-follows) c.literals_within.ensures
