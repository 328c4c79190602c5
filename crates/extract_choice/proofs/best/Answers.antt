-- `extract_choice::best` meets its contract: no step out of order, and else the best entry of the table, with its uses. Assumes nothing.
use mathlib.Core.Path.{◌≡◌, refl, sym, ap, ◌∙◌}
use mathlib.Core.Bool.{true, false}
use lib.IntN.{pos}
use lib.Signed.{lt_z, le_z}
use mir.Syntax.{w32}
use mir.Val.{to_z, of_z}
use mir.Facts.{to_z-of_z}
use Rattle.extract_tidy.specs.Tidy.{arranged}
use Rattle.extract_choice.proofs.{Weights.above_most}
use Rattle.extract_choice.proofs.Deciding.{chosen-not, entries_none, entries-chosen}
use borrow.Author.Rules.{rules}
use Rattle.extract_choice.proofs.best.Goals as goal
use Rattle.extract_choice.proofs.best.Goals.{After-scan-s, Else-s-le0, Then-s-le0}

kept : (c : After-scan-s) → arranged c.args.n ≡ true
kept c = sym c.is_arranged.ensures ∙ c.if-not-is_arranged.false

-- the weight that is read is the step's
read : (c : After-scan-s) → let s = c.scan-s.result in to_z w32 (of_z w32 s.weight) ≡ s.weight
read c = to_z-of_z {w = w32} {z = c.scan-s.result.weight} (search rules)

above : (c : Else-s-le0) → lt_z (pos 0) c.scan-s.result.weight ≡ true
above c = above_most c.scan-s.result.weight false (ap (λ z. le_z z (pos 0)) (sym (to_z-of_z {w = w32} {z = c.scan-s.result.weight} (search rules))) ∙ c.if-s-le0.false)

low : (c : Then-s-le0) → lt_z (pos 0) c.scan-s.result.weight ≡ false
low c = above_most c.scan-s.result.weight true (ap (λ z. le_z z (pos 0)) (sym (to_z-of_z {w = w32} {z = c.scan-s.result.weight} (search rules))) ∙ c.if-s-le0.true)

pub returns-then-not-is_arranged : goal.returns-then-not-is_arranged
returns-then-not-is_arranged c k = chosen-not _ _ (sym c.is_arranged.ensures ∙ c.if-not-is_arranged.true) c.no_step.ensures

pub returns-then-s-le0 : goal.returns-then-s-le0
returns-then-s-le0 c k =
    let s = c.scan-s in
    entries_none _ (kept (goal.at.returns-then-s-le0 c).After-scan-s) _ _ (k (kept (goal.at.returns-then-s-le0 c).After-scan-s)) s.result s.ensures.0 (low (goal.at.returns-then-s-le0 c).Then-s-le0) _ c.no_step-then-s-le0.ensures

pub returns : goal.returns
returns c k =
    let s = c.scan-s in
    entries-chosen c.args.n (kept (goal.at.returns c).After-scan-s) _ _ (k (kept (goal.at.returns c).After-scan-s)) s.result s.ensures.0 (above (goal.at.returns c).Else-s-le0) _
    c.uses_of.ensures refl (read (goal.at.returns c).After-scan-s)
