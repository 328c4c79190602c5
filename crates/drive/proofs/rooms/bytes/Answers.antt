-- The answers of `drive::rooms::bytes`: by hand, so that a wrong room is refused by its equation and not by a limit of the search.
use mathlib.Core.Path.{refl}
use Rattle.drive.proofs.rooms.bytes.Goals as goal

pub returns : goal.returns
returns c = refl
