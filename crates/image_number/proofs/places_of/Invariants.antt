-- `image_number::places_of` meets its contract. The loop's invariant: the divisors passed have the numbers from n on. Assumes nothing.

use Rattle.image_number.specs.Parts.{Placing}
use Rattle.image_number.proofs.places_of.Given as goal

abbrev pub invariant-loop-i : goal.invariant-loop-i
invariant-loop-i l = Placing l.n l.i l.order l.places
