-- `drive_request::pairs` meets its contract. The loop's invariant: the bytes of what is left are due. Assumes nothing.
use mathlib.Core.Path.{◌≡◌}
use Rattle.std.specs.Slice.Iter.{chunks_rest, chunks_size}
use Rattle.drive_request.specs.Numbers.{pairs_of}
use Rattle.drive_request.proofs.Storing.{Storing}
use Rattle.drive_request.proofs.pairs.Given as goal

abbrev pub invariant-loop-pair : goal.invariant-loop-pair
invariant-loop-pair l =
    (chunks_size l.pair-iterator ≡ 2) × Storing l.initial.room l.room l.n (pairs_of (chunks_rest l.pair-iterator)) (pairs_of l.word)
