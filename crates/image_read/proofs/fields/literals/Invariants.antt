-- `image_read::literals` meets its contract. The loop's invariant: the literals read so far and those to come are those of the definition. Assumes nothing.
use Prim.Native.Nat.{◌+◌, ◌*◌}
use mathlib.Core.Path.{◌≡◌}
use Rattle.cube.specs.Cube.{lits}
use Rattle.image_fields.specs.Fields.{bits_in}
use Rattle.image_laws.specs.Widths.{edition1}
use Rattle.image_read.proofs.Gathering.{Gathering}
use Rattle.image_read.proofs.fields.literals.Given as goal

abbrev pub invariant-loop-i : goal.invariant-loop-i
invariant-loop-i l =
    (l.at ≡ l.start + edition1.literal * l.i) × Gathering (bits_in l.bytes) l.v l.k l.start l.at l.i (lits l.seen) l.ascending
