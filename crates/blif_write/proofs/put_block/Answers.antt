-- `blif_write::put_block` meets its contract: the line of names, then the rows. Assumes nothing.
use Prim.Native.Nat.{◌≤◌}
use native.Mathlib.Omega.{arith}
use lib.ListN.{length}
use Rattle.sets.specs.Word.{largest}
use Rattle.letters_products.specs.Spelled.{spelled}
use Rattle.letters.proofs.Laying.{due_all, due-next, due-last}
use Rattle.blif_write.proofs.{Walking.reads_plain, Texts.block-marked}
use Rattle.blif_write.proofs.put_block.Goals as goal
use Rattle.blif_write.proofs.put_block.Goals.{After-reads-set}

-- the room and the place
room : (c : After-reads-set) → let s = c.args in (length s.o.now ≤ largest) × (s.at ≤ largest)
room c = (omega arith, omega arith)

pub put_rows-requires : goal.put_rows-requires
put_rows-requires c = reads_plain _ _ c.reads-set.ensures

pub returns : goal.returns
unfolding spelled
returns c =
    let from-reads = due-next (due_all _ _ (room (goal.at.returns c).After-reads-set).0 (room (goal.at.returns c).After-reads-set).1 (block-marked _ _ _ c.reads-set.ensures)) c.put_bytes-p.ensures in
    let from-name = due-next from-reads c.put_reads-q.ensures in
    due-last (due-next (due-next from-name c.put_word-r.ensures) c.put-s.ensures) c.put_rows.ensures
