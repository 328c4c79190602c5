-- `image_read::field_at` meets its contract. Assumes nothing.
use Prim.Native.Nat.{◌<◌}
use native.Mathlib.Omega.{arith}
use lib.ListN.{length, drop}
use Rattle.image_fields.{specs.Fields.bits_in, proofs.Bytes.left-length}
use Rattle.image_read.proofs.fields.field_at.Goals as goal

pub returns-then-bytes-div_ceil : goal.returns-then-bytes-div_ceil
returns-then-bytes-div_ceil c =
    let short : length (drop c.args.at (bits_in c.args.bytes.now)) < c.args.w =
    omega (arith, c.if-bytes-div_ceil.true, c.div_ceil.ensures, left-length c.args.bytes.now c.args.at) in
    short

pub returns : goal.returns
returns c = (omega (arith, c.if-bytes-div_ceil.false, c.div_ceil.ensures, left-length c.args.bytes.now c.args.at), c.value_at.ensures)
