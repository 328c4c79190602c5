-- `extract_rank::is_sum_before` meets its contract: the parts are compared in turn. Assumes nothing.
use mathlib.Core.Path.{refl}
use Rattle.sets.proofs.Ordering.{before-irrefl, before-asym}
use Rattle.cube.proofs.Verdict.{told_of_lem}
use Rattle.extract_rank.proofs.is_sum_before.Goals as goal

pub returns-in-Less : goal.returns-in-Less
returns-in-Less c = rw ((told_of_lem _ _ _ _ _ c.in-Less.ensures refl refl).first refl)

pub returns-in-Equal : goal.returns-in-Equal
returns-in-Equal c = rw ((told_of_lem _ _ _ _ _ c.in-Equal.ensures refl refl).alike refl, before-irrefl) c.is_before.ensures

pub returns-in-Greater : goal.returns-in-Greater
returns-in-Greater c =
    let last = (told_of_lem _ _ _ _ _ c.in-Greater.ensures refl refl).last refl in
    rw (before-asym _ _ last, last)
