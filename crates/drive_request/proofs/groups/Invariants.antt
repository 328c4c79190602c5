-- `drive_request::groups` meets its contract. The loop's invariant: no word passed is empty, and each lone `;` is counted. Assumes nothing.
use mathlib.Core.Path.{◌≡◌}
use Prim.Native.Nat.{◌+◌}
use Rattle.drive_request.specs.Words.{words_of, filled, parts_in}
use Rattle.drive_request.proofs.groups.Given as goal

abbrev pub invariant-loop-word : goal.invariant-loop-word
invariant-loop-word l =
    (filled (words_of l.word-iterator.0.now) ≡ filled (words_of l.line)) × (l.parts + parts_in (words_of l.word-iterator.0.now) ≡ parts_in (words_of l.line))
