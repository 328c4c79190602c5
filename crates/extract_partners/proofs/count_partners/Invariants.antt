-- `extract_partners::count_partners` meets its contract. The loop's invariant: the walk stands in the chain of the code, and what it has left is
-- still to be put in. The measure is the place, which falls. Assumes nothing.
use mathlib.Core.Path.{◌≡◌}
use Rattle.expression.specs.Words.{cubes_of}
use Rattle.extract_partners.specs.Table.{left_at, code_of, Entered}
use Rattle.extract_partners.proofs.Chains.{Walk}
use Rattle.extract_partners.proofs.count_partners.Given as goal

abbrev pub invariant-loop-at : goal.invariant-loop-at
invariant-loop-at l =
    (s : Entered (cubes_of l.f) l.ws l.r l.e) (p : l.code ≡ code_of (left_at (cubes_of l.f) l.w)) → Walk (cubes_of l.f) l.ws l.r l.e l.w l.code s p l.initial.t l.initial.g l.t l.g l.at

abbrev pub decreases-loop-at : goal.decreases-loop-at
decreases-loop-at l = l.at
