-- `extract_step::Source::put` meets its contract: what the cubes become, in cube order, is the node rewritten. Assumes nothing.
use Prim.Native.Nat.{ℕ, ◌-◌, ◌≤◌}
use mathlib.Core.Path.{◌≡◌, sym, ap, ◌∙◌}
use mathlib.Core.{Bool.true, List.List}
use native.Mathlib.Omega.{arith}
use lib.ListN.{length, take, drop}
use Rattle.expression.specs.{Words.cubes_of, Words.Appends, Expression.ordered, Expression.sort}
use Rattle.expression.proofs.Sorting.{ordered-sort}
use Rattle.expression.proofs.Placing.{placed-span, appends-as, appends-sort}
use Rattle.extract_step.proofs.{Becoming.become-rewrite}
use Rattle.extract_step.proofs.Source.put.Goals as goal

-- cubes that are found in cube order are sorted as they stand
appends-ordered : {old new : List ℕ} {a r : ℕ} {f : List (List ℕ)} → Appends old new a f r → a ≤ length (cubes_of old)
    → ordered (take (r - a) (drop a (cubes_of new))) ≡ true → Appends old new a (sort f) r
appends-ordered {f = f} p h o = appends-as (sym (ordered-sort f (ap ordered (sym (placed-span p.placed h p.next)) ∙ o))) p

pub returns-then-not-is_ordered : goal.returns-then-not-is_ordered
returns-then-not-is_ordered c = appends-as (become-rewrite _ _ _) (appends-sort c.write-to.ensures (omega (arith, c.requires)) c.sort_part.ensures)

pub returns-else-not-is_ordered : goal.returns-else-not-is_ordered
returns-else-not-is_ordered c =
    appends-as (become-rewrite _ _ _) (appends-ordered c.write-to.ensures (omega (arith, c.requires))
    (ap ordered (sym c.part.ensures.0) ∙ sym c.is_ordered.ensures ∙ c.if-not-is_ordered.false))
