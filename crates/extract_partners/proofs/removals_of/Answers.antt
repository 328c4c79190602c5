-- `extract_partners::removals_of` meets its contract. Assumes nothing.
use mathlib.Core.Path.{◌≡◌}
use native.Mathlib.Omega.{arith}
use lib.ListN.{length}
use Rattle.cube.specs.Cube.{lits}
use Rattle.extract_partners.proofs.{Removing.removals-length}
use Rattle.extract_partners.proofs.removals_of.Goals as goal
use Rattle.extract_partners.proofs.removals_of.Goals.{After-count-n}

-- the count of the literals, as a number of places
same : (c : After-count-n) → c.count-n.result ≡ length (lits c.args.c)
same c = c.count-n.ensures

pub returns : goal.returns
returns c = rw (same c) (omega (arith, removals-length (lits c.args.c)))
