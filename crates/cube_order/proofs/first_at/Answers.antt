-- `cube_order::first_at` meets its contract. Assumes nothing.
use mathlib.Core.Path.{sym, ◌∙◌, ap}
use mathlib.Core.Option.{some}
use native.Mathlib.Omega.{arith}
use borrow.Author.Tests.{eq-eqb, ne_eqb}
use Rattle.sets.proofs.Digits.{bit_test}
use Rattle.sets.proofs.Scan.{first-wide, first-empty, first_plain, first-negated}
use borrow.Author.Rules.{rules}
use Rattle.cube_order.proofs.first_at.Goals as goal

pub returns-then-at-ge-VARIABLES : goal.returns-then-at-ge-VARIABLES
returns-then-at-ge-VARIABLES c = first-wide 64 _ _ _ c.if-at-ge-VARIABLES.true

pub returns-then-m-eq0 : goal.returns-then-m-eq0
returns-then-m-eq0 c = first-empty 64 _ _ _ c.if-m-eq0.true

pub returns-then-p-t-eq1 : goal.returns-then-p-t-eq1
returns-then-p-t-eq1 c =
    let t = c.lowest-t.ensures in
    ap some (omega (arith, t.inside)) ∙ first_plain 64 _ _ _ (search rules) (search rules) _ t.clear
    (sym (bit_test _ _) ∙ eq-eqb _ _ c.if-p-t-eq1.true)

pub returns-else-p-t-eq1 : goal.returns-else-p-t-eq1
returns-else-p-t-eq1 c =
    let t = c.lowest-t.ensures in
    ap some (omega (arith, t.inside))
    ∙ first-negated 64 _ _ _ (search rules) (search rules) _ t.clear t.is_set (sym (bit_test _ _) ∙ ne_eqb _ _ c.if-p-t-eq1.false)
