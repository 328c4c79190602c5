-- `blif_write::put_reads` meets its contract. The loop's invariant: the names of the variables from v on are due. Assumes nothing.
use mathlib.Core.Path.{◌≡◌}
use mathlib.Core.List.{map}
use lib.ListN.{length}
use Rattle.cube.specs.Cube.{lits}
use Rattle.letters.specs.Letters.{name_text}
use Rattle.letters.proofs.Laying.{Due}
use Rattle.blif_write.specs.Parts.{led, plains_of}
use Rattle.blif_write.proofs.Walking.{plains_from}
use Rattle.blif_write.proofs.put_reads.Given as goal

abbrev pub invariant-loop-v : goal.invariant-loop-v
invariant-loop-v l = Due l.initial.o l.initial.p (led (map (name_text 120) (plains_of (lits l.set)))) l.o l.p (led (map (name_text 120) (plains_from (lits l.set) l.v))) × (length l.o ≡ length l.initial.o)
