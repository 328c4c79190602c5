-- `cokernel::branch_at` meets its contract. Assumes nothing.
use mathlib.Core.Path.{◌∙◌}
use Rattle.cube.proofs.Lits.{lits-asc}
use Rattle.cokernel.proofs.{Exactly.held-words, Steps.joined-inside, Steps.branch-found}
use Rattle.cokernel.proofs.branch_at.Goals as goal

pub returns : goal.returns
returns c =
    branch-found _ _ (held-words _) _ _ _ (c.with-q.ensures ∙ joined-inside _ _ c.requires) _ _ c.close-s.ensures
    (lits-asc c.with-q.result) _ _ c.is_open.ensures c.is_closed.ensures
