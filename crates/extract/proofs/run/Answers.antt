-- `extract::run` meets its contract: the run of the network in cube order, or the refusal. Assumes nothing.
use mathlib.Core.{Path.◌≡◌, Path.refl, Bool.true}
use Rattle.network.{specs.Held.net_of, specs.Held.rules, specs.Handed.Holds, specs.Handed.Shaped, proofs.Handing.shape_of}
use Rattle.extract_laws.specs.Run.{in_order}
use Rattle.network.proofs.Telling.{told-accepted, told-refused}
use Rattle.extract.proofs.Starting.{start-ready, start-told, refused-told}
use borrow.Author.Rules.{rules as kit_rules}
use Rattle.extract.proofs.run.Goals as goal
use Rattle.extract.proofs.run.Goals.{In-Accepted, Start}

shape : (s : Start) → Shaped s.args.n
shape s = shape_of _ (search kit_rules) (search kit_rules)

-- what is held where the network is accepted
kept : (c : In-Accepted) → let n = c.args.n in (rules n ≡ true)
    × Holds c.in_order-tidy.result.network (in_order (net_of n))
kept c = told-accepted c.args.n (in_order (net_of c.args.n)) c.in_order-tidy.result
    c.in_order-tidy.ensures c.in-Accepted.is

pub returns-in_default : goal.returns-in_default
returns-in_default c =
    let n = c.args.n in
    let q = told-refused n (in_order (net_of n)) c.in_order-tidy.result _ c.in_order-tidy.ensures c.in_default.is in
    refused-told c.args.steps n _ q.0 refl q.1 c.no_steps.ensures

pub follow-requires : goal.follow-requires
follow-requires c =
    start-ready c.args.n c.in_order-tidy.result.network (shape (goal.at.follow-requires c).Start) (kept c).0 (kept c).1

pub returns : goal.returns
returns c =
    start-told c.args.n c.in_order-tidy.result.network (shape (goal.at.returns c).Start) (kept (goal.at.returns c).In-Accepted).0 (kept (goal.at.returns c).In-Accepted).1 c.args.steps c.follow.result c.follow.ensures
