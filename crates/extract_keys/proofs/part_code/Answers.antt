-- `extract_keys::part_code` meets its contract. Assumes nothing.
use native.Mathlib.Omega.{arith}
use Rattle.cube.proofs.Lits.{lits-asc}
use Rattle.extract_keys.proofs.Codes.{first_two, cube-code-below}
use Rattle.extract_keys.proofs.part_code.Goals as goal

pub returns-clause-code : goal.returns-clause-code
returns-clause-code c = first_two _ _ _ (lits-asc _) c.literal_from-p.ensures.found c.literal_from-q.ensures.found

pub returns-clause-below : goal.returns-clause-below
returns-clause-below c =
    omega (arith, cube-code-below c.args.a, first_two _ _ _ (lits-asc _) c.literal_from-p.ensures.found c.literal_from-q.ensures.found)
