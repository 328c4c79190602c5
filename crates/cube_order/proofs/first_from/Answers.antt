-- `cube_order::first_from` meets its contract. Assumes nothing.
use Rattle.cube.specs.Cube.{lits}
use Rattle.sets.{specs.Sets.first_from, proofs.First.first-here, proofs.First.first_next, proofs.Literals.literals-asc}
use mathlib.Core.Path.{sym, ◌∙◌, ap}
use native.Mathlib.Omega.{arith}
use Prim.Native.Nat.{◌%◌}
use borrow.Author.Tests.{eqb-true, eqb-false}
use Rattle.cube_order.proofs.first_from.Goals as goal

pub returns-then-has : goal.returns-then-has
returns-then-has c = first-here _ _ (literals-asc 64 _ _) (sym c.has.ensures ∙ c.if-has.true)

pub returns-then-is_negated : goal.returns-then-is_negated
returns-then-is_negated c =
    let a = c.args in
    c.first_at.ensures ∙ ap (λ k. first_from k (lits a.c)) (omega (arith, eqb-true (a.l.0 % 2) 1 (sym c.is_negated.ensures ∙ c.if-is_negated.true)))
    ∙ sym (first_next a.l.0 _ (sym c.has.ensures ∙ c.if-has.false))

pub returns : goal.returns
returns c =
    let a = c.args in
    c.first_at-2.ensures ∙ ap (λ k. first_from k (lits a.c)) (omega (arith, eqb-false (a.l.0 % 2) 1 (sym c.is_negated.ensures ∙ c.if-is_negated.false)))
