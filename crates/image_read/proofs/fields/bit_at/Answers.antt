-- `image_read::bit_at` meets its contract. Assumes nothing.
use Prim.Native.Nat.{◌-◌, ◌/◌, ◌%◌}
use lib.ListN.{get_or}
use Rattle.image_read.proofs.Bits.{bit-read}
use Rattle.image_read.proofs.fields.bit_at.Goals as goal

pub returns : goal.returns
returns c = rw c.from.ensures (bit-read (get_or c.args.bytes.now (c.args.p / 8) 0) (7 - c.args.p % 8))
