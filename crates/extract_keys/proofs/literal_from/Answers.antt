-- `extract_keys::literal_from` meets its contract: a literal of a cube is below twice the width. Assumes nothing.
use Rattle.cube.proofs.Lits.{first-inside}
use Rattle.extract_keys.proofs.literal_from.Goals as goal

pub returns-in-Some-clause-below : goal.returns-in-Some-clause-below
returns-in-Some-clause-below c _ = first-inside c.args.a c.args.l c.in-Some.m.0 c.in-Some.ensures
