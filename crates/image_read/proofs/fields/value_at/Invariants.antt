-- `image_read::value_at` meets its contract. The loop's invariant: the number is that of the bits passed. Assumes nothing.
use mathlib.Core.Path.{◌≡◌}
use lib.ListN.{take, drop}
use Rattle.image_fields.{specs.Fields.value_of, specs.Fields.bits_in}
use Rattle.image_read.proofs.fields.value_at.Given as goal

abbrev pub invariant-loop-i : goal.invariant-loop-i
invariant-loop-i l = l.v ≡ value_of (take l.i (drop l.at (bits_in l.bytes)))
