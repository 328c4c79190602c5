-- `blif_write::put_rows` meets its contract. The loop's invariant: the rows of the cubes that are left are due. Assumes nothing.
use mathlib.Core.Path.{◌≡◌}
use lib.ListN.{length, drop}
use Rattle.cube.specs.Cube.{lits}
use Rattle.expression.specs.Words.{cubes_of}
use Rattle.letters.proofs.Laying.{Due}
use Rattle.blif_write.specs.Parts.{plains_of, rows_text}
use Rattle.blif_write.proofs.put_rows.Given as goal

abbrev pub invariant-loop-c : goal.invariant-loop-c
invariant-loop-c l =
    let rows = rows_text (plains_of (lits l.set)) in
    record {
      goes_on : (goal.iterator-loop-c).can_next l.c-iterator;
      ends : (goal.iterator-loop-c).is_finite l.c-iterator;
      due : Due l.initial.o l.initial.p (rows (cubes_of l.f)) l.o l.p (rows (drop (length l.yielded) (cubes_of l.f)));
      size : length l.o ≡ length l.initial.o;
    }
