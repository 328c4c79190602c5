-- The answers of the iterator's `next`.
use mathlib.Core.Path.{◌≡◌, ap}
use mathlib.Core.List.{◌∷◌}
use lib.ListN.{length}
use borrow.Author.Rules.{rules}
use Rattle.cube.specs.Cube.{lits}
use Rattle.cube_order.proofs.Taking.{taken_none, taken_next}
use Rattle.cube_order.proofs.LiteralsIterator.next.Goals as goal
use Rattle.cube_order.proofs.LiteralsIterator.next.Goals.{After-without-self}

-- the literal found and the others
others : (c : After-without-self) → lits c.args.self.now.rest ≡ c.in-Some.l.0 ∷ lits c.without-self.result
others c = taken_next _ c.first_at-found.ensures c.in-Some.is c.empty.ensures c.with.ensures c.without-self.ensures

pub returns-in_default-clause-steps : goal.returns-in_default-clause-steps
returns-in_default-clause-steps c =
    let e = taken_none _ c.first_at-found.ensures c.in_default.is in
    (e, e)

pub returns-clause-steps : goal.returns-clause-steps
returns-clause-steps c = others (goal.at.returns-clause-steps c).After-without-self

pub returns-clause-goes : goal.returns-clause-goes
returns-clause-goes c = let e = ap length (others (goal.at.returns-clause-goes c).After-without-self) in search (rules, e)
