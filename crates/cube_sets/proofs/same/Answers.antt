-- `cube_sets::same` meets its contract. Assumes nothing.
use mathlib.Core.Path.{◌∙◌}
use mathlib.Core.Logic.{inl, inr}
use lib.Dec.{eqb}
use borrow.Author.Rules.{rules}
use borrow.Author.Tests.{eqb-true, eqb-false}
use Rattle.sets.proofs.Truth.{decided}
use Rattle.sets.proofs.Literals.{equal-masks, other-masks}
use Rattle.cube_sets.proofs.same.Goals as goal

pub returns : goal.returns
returns c =
    let p = eqb c.args.a.plain c.args.b.plain in
    elim (decided p) [
      | inl t ↦ rw t at c.eq.ensures ∙ equal-masks 64 _ _ _ _ (search rules) (search rules) (search rules) (search rules) (eqb-true _ _ t)
      | inr t ↦ rw t at c.eq.ensures ∙ other-masks 64 _ _ _ _ (search rules) (search rules) (eqb-false _ _ t)
    ]
