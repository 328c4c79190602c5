-- `blif_write::put_blocks` meets its contract. The loop's invariant: the blocks of the nodes that are left are due. Assumes nothing.
use mathlib.Core.Path.{◌≡◌}
use Prim.Native.Nat.{◌+◌}
use lib.ListN.{length, drop}
use Rattle.letters.proofs.Laying.{Due}
use Rattle.blif_write.specs.Parts.{blocks_text, nodes_at}
use Rattle.blif_write.proofs.put_blocks.Given as goal

abbrev pub invariant-loop-i : goal.invariant-loop-i
invariant-loop-i l =
    let fs = nodes_at l.a l.n l.net.words l.net.counts in
    let k = length l.yielded in
    record {
      goes_on : (goal.iterator-loop-i).can_next l.i-iterator;
      ends : (goal.iterator-loop-i).is_finite l.i-iterator;
      due : Due l.initial.o l.initial.p (blocks_text l.b l.v fs) l.o l.p (blocks_text l.b (l.v + k) (drop k fs));
      size : length l.o ≡ length l.initial.o;
    }
