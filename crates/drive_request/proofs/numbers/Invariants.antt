-- `drive_request::numbers` meets its contract. The loop's invariant: the numbers of the words that are left are due. Assumes nothing.
use Rattle.drive_request.specs.Numbers.{numbers_of}
use Rattle.drive_request.proofs.Storing.{Storing}
use Rattle.drive_request.proofs.numbers.Given as goal

abbrev pub invariant-loop-word : goal.invariant-loop-word
invariant-loop-word l = Storing l.initial.pool l.pool l.n (numbers_of l.word-iterator.0.now) (numbers_of l.text)
