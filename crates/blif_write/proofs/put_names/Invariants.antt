-- `blif_write::put_names` meets its contract. The loop's invariant: the names from i on are due. Assumes nothing.
use mathlib.Core.Path.{◌≡◌}
use lib.ListN.{length}
use Rattle.letters.proofs.Laying.{Due}
use Rattle.blif_laws.specs.Text.{first_names}
use Rattle.blif_write.specs.Parts.{led}
use Rattle.blif_write.proofs.Walking.{names_from}
use Rattle.blif_write.proofs.put_names.Given as goal

abbrev pub invariant-loop-i : goal.invariant-loop-i
invariant-loop-i l = Due l.initial.o l.initial.p (led (first_names l.b l.n)) l.o l.p (names_from l.b l.n l.i) × (length l.o ≡ length l.initial.o)
