-- `extract_tidy::in_order` meets its contract: a network by the rules is held with its nodes in cube order, and the slots not in use are zero.
-- Assumes nothing.
use mathlib.Core.Path.{◌≡◌, sym, ◌∙◌, subst}
use mathlib.Core.Bool.{true}
use borrow.Author.Rules.{rules as kit_rules}
use Rattle.network.{specs.Held.net_of, specs.Held.rules, specs.Handed.Shaped, specs.Handed.Holds, proofs.Handing.shape_of}
use Rattle.network.proofs.{Limits.rules-sized, Ruling.accepted-rules, Ruling.refused-rules}
use Rattle.network.proofs.Telling.{told-gives, told-refuses}
use Rattle.extract_laws.specs.Run.{in_order}
use Rattle.extract_tidy.proofs.Laid.{laid-order}
use Rattle.extract_tidy.proofs.in_order.Goals as goal
use Rattle.extract_tidy.proofs.in_order.Goals.{In-Accepted, Start}

-- ---- what holds there
-- the rules are kept where the network is accepted
kept : (c : In-Accepted) → rules c.args.n ≡ true
kept c = accepted-rules _ (sym c.judge.ensures ∙ c.in-Accepted.is)

shape : (s : Start) → Shaped s.args.n
shape s = shape_of _ (search kit_rules) (search kit_rules)

pub returns-in_default : goal.returns-in_default
returns-in_default c =
    told-refuses c.args.n (in_order (net_of c.args.n)) c.refuse.result (refused-rules c.args.n _ (sym c.judge.ensures ∙ c.in_default.is)) c.refuse.ensures

pub lay_nodes-requires-clause-limited : goal.lay_nodes-requires-clause-limited
lay_nodes-requires-clause-limited c =
    let p = goal.at.lay_nodes-requires-clause-limited c in rules-sized c.args.n (shape p.Start) (kept p.In-Accepted)

pub returns : goal.returns
returns c =
    let n = c.args.n in
    let p = goal.at.returns c in
    let h = c.hand.ensures in
    told-gives n (in_order (net_of n)) c.hand.result (kept p.In-Accepted)
    (h.0, subst (λ m. Holds m (in_order (net_of n))) (sym h.1) (laid-order n (shape p.Start) (kept p.In-Accepted) c.lay_nodes.ensures))
