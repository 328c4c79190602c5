-- `blif_write::write` meets its contract: the network is renumbered, its text counted with no room, and then written or refused. Assumes nothing.
use mathlib.Core.Path.{refl}
use Prim.Native.Nat.{◌<◌}
use native.Mathlib.Omega.{arith}
use borrow.Author.Rules.{rules}
use lib.ListN.{length}
use Rattle.sets.specs.Word.{largest}
use Rattle.letters.{proofs.Telling.told-before, proofs.Telling.told-long, proofs.Telling.told-whole}
use Rattle.letters.proofs.Laying.{laid_as, laid-whole, laid-long, laid-short}
use Rattle.network.proofs.{Handing.shape_of, Telling.told-accepted, Telling.told-refused}
use Rattle.image_write.proofs.Telling.{Renewed}
use Rattle.blif_write.proofs.Renewing.{renewed-limited, renewed-text}
use Rattle.blif_write.proofs.write.Goals as goal
use Rattle.blif_write.proofs.write.Goals.{After-put_model-length, In-Accepted}

renewed : (c : In-Accepted) → Renewed c.args.n c.renumber-r.result.network
renewed c =
    let t = told-accepted _ _ _ c.renumber-r.ensures c.in-Accepted.is in
    record { shape = shape_of _ (search rules) (search rules); lawful = t.0; holds = t.1; whole = shape_of _ (search rules) (search rules) }

-- the room is shorter than what can be counted
room : (c : After-put_model-length) → length c.args.room.now < largest
room c = omega arith

pub returns-in_default : goal.returns-in_default
returns-in_default c = rw (told-refused _ _ _ _ c.renumber-r.ensures c.in_default.is).0 (told-before _ _ _)

pub put_model-length-requires : goal.put_model-length-requires
put_model-length-requires c = renewed-limited (renewed (goal.at.put_model-length-requires c).In-Accepted)

pub returns-then-room-length : goal.returns-then-room-length
returns-then-room-length c =
    let r = renewed (goal.at.returns-then-room-length c).In-Accepted in
    let whole = laid_as c.put_model-length.ensures (renewed-text r) in
    let long = laid-long whole (length c.args.room.now) (room (goal.at.returns-then-room-length c).After-put_model-length) c.if-room-length.true in
    rw r.lawful (told-long _ _ _ long refl)

pub put_model-requires : goal.put_model-requires
put_model-requires c = renewed-limited (renewed (goal.at.put_model-requires c).In-Accepted)

pub returns : goal.returns
returns c =
    let r = renewed (goal.at.returns c).In-Accepted in
    let whole = laid_as c.put_model-length.ensures (renewed-text r) in
    let n = laid-short whole (length c.args.room.now) (room (goal.at.returns c).After-put_model-length) c.if-room-length.false in
    rw r.lawful (told-whole _ _ _ _ (omega arith) n (laid-whole (laid_as c.put_model.ensures (renewed-text r)) (omega arith)))
