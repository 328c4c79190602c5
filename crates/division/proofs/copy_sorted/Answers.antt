-- `division::copy_sorted` meets its contract: what was listed, put in order. Assumes nothing.
use native.Mathlib.Omega.{arith}
use Rattle.expression.{specs.Words.cubes_of, proofs.Placing.appends-sort}
use Rattle.division.proofs.{Listing.copied}
use Rattle.division.proofs.copy_sorted.Goals as goal

pub returns : goal.returns
returns c =
    appends-sort (copied (cubes_of c.args.s.now) c.number-n.ensures c.requires c.copy.ensures) (omega arith) c.sort_part.ensures
