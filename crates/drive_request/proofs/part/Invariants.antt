-- `drive_request::part` meets its contract. The loop's invariant: the words passed hold no lone `;`. Assumes nothing.
use mathlib.Core.Path.{◌≡◌}
use Prim.Native.Nat.{◌+◌}
use lib.ListN.{length}
use Rattle.sets.specs.Lists.{total}
use Rattle.drive_request.specs.Words.{words_of, ahead}
use Rattle.drive_request.proofs.part.Given as goal

abbrev pub invariant-loop-word : goal.invariant-loop-word
invariant-loop-word l =
    (l.at + ahead (words_of l.word-iterator.0.now) ≡ ahead (words_of l.text))
    × (l.at + total (λ w. length w + 1) (words_of l.word-iterator.0.now) ≡ total (λ w. length w + 1) (words_of l.text))
