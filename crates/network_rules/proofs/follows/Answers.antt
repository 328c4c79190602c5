-- `network_rules::follows` meets its contract: the limits and the variables read, the listing, then the other rules. Assumes nothing.
use mathlib.Core.Path.{◌≡◌, sym, ◌∙◌}
use mathlib.Core.Bool.{true}
use Rattle.std.proofs.Common.{rules, arith}
use borrow.Author.Tests.{tests}
use Rattle.network.{specs.Answers.listable, specs.Handed.Shaped, specs.Parts.Limited, proofs.Handing.shape_of, proofs.Limits.sized-out}
use Rattle.network_listing.proofs.Answering.{listable-sized}
use Rattle.network_rules.proofs.{Ruling.rules-no, Ruling.rules-as}
use Rattle.network_rules.proofs.follows.Goals as goal
use Rattle.network_rules.proofs.follows.Goals.{Else-not-is_listable, then-is_acyclic, else-is_acyclic}

allowed : (c : Else-not-is_listable) → listable c.args.n ≡ true
allowed c = sym c.is_listable.ensures ∙ c.if-not-is_listable.false

shape : (c : Else-not-is_listable) → Shaped c.args.n
shape c = shape_of _ (search rules) (search rules)

small : (c : Else-not-is_listable) → Limited c.args.n
small c = sized-out c.args.n (shape c) (listable-sized c.args.n (allowed c))

pub returns-then-not-is_listable : goal.returns-then-not-is_listable
returns-then-not-is_listable c = rules-no c.args.n (sym c.is_listable.ensures ∙ c.if-not-is_listable.true)

pub all_expressions-requires : goal.all_expressions-requires
all_expressions-requires c = small (goal.at.all_expressions-requires c).Else-not-is_listable

pub count-requires : goal.count-requires
count-requires c = small (goal.at.count-requires c).Else-not-is_listable

pub returns-then-all_expressions : goal.returns-then-all_expressions
returns-then-all_expressions c =
    let x = (goal.at.returns-then-all_expressions c).Else-not-is_listable in
    rw (rules-as c.args.n (shape x) (allowed x)) (elim c.if-is_acyclic.branch
    [ then-is_acyclic w ↦ grind (arith, tests) | else-is_acyclic w ↦ grind (arith, tests) ])

pub returns-else-all_expressions : goal.returns-else-all_expressions
returns-else-all_expressions c =
    let x = (goal.at.returns-else-all_expressions c).Else-not-is_listable in
    rw (rules-as c.args.n (shape x) (allowed x)) (elim c.if-is_acyclic.branch
    [ then-is_acyclic w ↦ grind (arith, tests) | else-is_acyclic w ↦ grind (arith, tests) ])
