-- `letters::put_bytes` meets its contract. The loop's invariant: the bytes from one on are due. Assumes nothing.
use lib.ListN.{drop}
use Rattle.letters.proofs.Laying.{Due}
use Rattle.letters.proofs.put_bytes.Given as goal

abbrev pub invariant-loop-b : goal.invariant-loop-b
invariant-loop-b l = Due l.fn.o l.initial.p l.s l.o l.p (drop l.b-index l.s)
