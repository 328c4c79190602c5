-- `image_read::read` meets its contract. Assumes nothing.
use Rattle.image_read.proofs.{Telling.refused-told, Telling.given-told}
use Rattle.image_read.proofs.read.Goals as goal

pub returns-in-Ok : goal.returns-in-Ok
returns-in-Ok c = given-told (rw c.in-Ok.is at c.network_of.ensures) c.hand.ensures

pub returns-in-Err : goal.returns-in-Err
returns-in-Err c = refused-told c.in-Err.e (rw c.in-Err.is at c.network_of.ensures) (rw c.number.ensures at c.refuse.ensures)
