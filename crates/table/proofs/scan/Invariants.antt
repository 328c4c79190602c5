-- `table::scan` meets its contract. The loop's invariant: what was read stands, and with what is left gives the outcome of all lines. Assumes nothing.
use Rattle.std.proofs.Common.{◌≡◌, length}
use Rattle.table.proofs.Scanning.{Reading}
use Rattle.table.proofs.scan.Given as goal

abbrev pub invariant-loop-i : goal.invariant-loop-i
invariant-loop-i l =
    (length l.words ≡ length l.initial.words) × (length l.marks ≡ length l.initial.marks) × Reading l.text l.words l.marks l.s (length l.yielded)
