-- `blif_write::put_signs` meets its contract. The loop's invariant: the signs of the variables from v on are due. Assumes nothing.
use mathlib.Core.Path.{◌≡◌}
use mathlib.Core.List.{map}
use lib.ListN.{length}
use Rattle.cube.specs.Cube.{lits}
use Rattle.letters.proofs.Laying.{Due}
use Rattle.blif_laws.specs.Text.{sign_of}
use Rattle.blif_write.specs.Parts.{plains_of}
use Rattle.blif_write.proofs.Walking.{plains_from}
use Rattle.blif_write.proofs.put_signs.Given as goal

abbrev pub invariant-loop-v : goal.invariant-loop-v
invariant-loop-v l =
    let signs = map (sign_of (lits l.c)) in
    Due l.initial.o l.initial.p (signs (plains_of (lits l.set))) l.o l.p (signs (plains_from (lits l.set) l.v)) × (length l.o ≡ length l.initial.o)
