-- `division::fits` meets its contract: two cubes share none where they have nothing in common; their union is sought in f. Assumes nothing.
use Rattle.sets.proofs.Sets.{meet-none}
use Rattle.division.proofs.fits.Goals as goal

pub returns-then-is_empty : goal.returns-then-is_empty
returns-then-is_empty c = rw (← meet-none, ← c.common.ensures, ← c.is_empty.ensures, c.if-is_empty.true, ← c.union.ensures) c.holds.ensures

pub returns-else-is_empty : goal.returns-else-is_empty
returns-else-is_empty c = rw (← meet-none, ← c.common.ensures, ← c.is_empty.ensures, c.if-is_empty.false)
