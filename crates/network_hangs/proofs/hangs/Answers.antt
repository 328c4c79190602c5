-- `network_hangs::hangs` meets its contract: nothing where the rules are broken or there is no such node. Assumes nothing.
use mathlib.Core.Path.{◌≡◌, sym, ◌∙◌}
use mathlib.Core.Bool.{true}
use native.Mathlib.Omega.{arith}
use borrow.Author.Rules.{rules as steps}
use Rattle.network.{specs.Held.rules, specs.Parts.Limited, proofs.Limits.rules-sized, proofs.Ruling.accepted-rules, proofs.Ruling.refused-rules}
use Rattle.network.{specs.Handed.Shaped, proofs.Handing.shape_of}
use Rattle.network_hangs.proofs.Finding.{hangs-refused, hangs-past, hangs-found}
use Rattle.network_hangs.proofs.hangs.Goals as goal
use Rattle.network_hangs.proofs.hangs.Goals.{In-Accepted}

kept : (c : In-Accepted) → rules c.args.n ≡ true
kept c = accepted-rules _ (sym c.judge.ensures ∙ c.in-Accepted.is)

shape : (c : In-Accepted) → Shaped c.args.n
shape c = shape_of _ (search steps) (search steps)

limited : (c : In-Accepted) → Limited c.args.n
limited c = rules-sized c.args.n (shape c) (kept c)

pub returns-in_default : goal.returns-in_default
returns-in_default c =
    hangs-refused c.args.n c.args.i (refused-rules _ _ (sym c.judge.ensures ∙ c.in_default.is)) c.empty.ensures

pub overflow_add-n : goal.overflow_add-n
overflow_add-n c = omega (arith, (limited (goal.at.overflow_add-n c).In-Accepted).narrow, (limited (goal.at.overflow_add-n c).In-Accepted).variables)

pub returns-then-i-n : goal.returns-then-i-n
returns-then-i-n c =
    hangs-past c.args.n c.args.i (kept (goal.at.returns-then-i-n c).In-Accepted) c.if-i-n.true c.empty-then-i-n.ensures

pub found-requires : goal.found-requires
found-requires c = (limited (goal.at.found-requires c).In-Accepted, omega arith)

pub returns : goal.returns
returns c =
    hangs-found c.args.n c.args.i (kept (goal.at.returns c).In-Accepted) c.found.ensures
