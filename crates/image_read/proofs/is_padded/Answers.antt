-- `image_read::is_padded` meets its contract. Assumes nothing.
use Prim.Native.Nat.{◌-◌, ◌*◌}
use mathlib.Core.Path.{sym, ap, ◌∙◌}
use mathlib.Core.Bool.{not, ◌&&◌}
use native.Mathlib.Omega.{arith}
use lib.ListN.{length, drop, drop_of_length-le}
use lib.Dec.{eqb}
use lib.Seq.{take_all}
use borrow.Author.Tests.{lt-ltb, le-ltb}
use Rattle.sets.specs.Lists.{all}
use Rattle.image_fields.specs.Fields.{value_of, bits_in}
use Rattle.image_fields.proofs.Bytes.{left-length, bits-in-length}
use Rattle.image_laws.specs.Reading.{padding}
use Rattle.image_read.proofs.{Bits.value-zero}
use Rattle.image_read.proofs.is_padded.Goals as goal

pub returns-then-div_ceil-n : goal.returns-then-div_ceil-n
unfolding padding
returns-then-div_ceil-n c =
    rw (le-ltb (length (drop c.args.at (bits_in c.args.bytes.now))) 8 (omega (arith, c.if-div_ceil-n.true, c.div_ceil.ensures, left-length c.args.bytes.now c.args.at)))

pub returns-then-n-at : goal.returns-then-n-at
unfolding padding
returns-then-n-at c =
    rw (drop_of_length-le (bits_in c.args.bytes.now) {i = c.args.at} (omega (arith, c.if-n-at.true, bits-in-length c.args.bytes.now)))

pub returns : goal.returns
unfolding padding
returns c =
    let l = drop c.args.at (bits_in c.args.bytes.now) in
    let n = left-length c.args.bytes.now c.args.at in
    let m = c.if-div_ceil-n.false in
    ap (λ v. eqb v 0) (c.value_at.ensures ∙ ap value_of (take_all (8 * length c.args.bytes.now - c.args.at) l (omega (arith, n)))) ∙ value-zero l
    ∙ sym (ap (◌&& all not l) (lt-ltb (length l) 8 (omega (arith, n, m, c.div_ceil.ensures))))
