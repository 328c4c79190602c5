-- The answers of `image_write::put_field`.
use Prim.Native.Nat.{◌-◌, ◌/◌, ◌^◌}
use mathlib.Core.List.{[], ◌∷◌, ◌++◌}
use lib.Bits.{bit_and}
use lib.Dec.{eqb}
use native.Mathlib.Omega.{arith}
use Rattle.sets.proofs.Digits.{bit_test}
use Rattle.image_fields.specs.Fields.{bits_of}
use Rattle.image_write.proofs.{Following.field_next, Following.field-none}
use Rattle.image_write.proofs.Laying.{Going, going-as, going_next, going-ready, going_done}
use Rattle.image_write.proofs.put_field.Goals as goal
use Rattle.image_write.proofs.put_field.Goals.{In-loop-i}

-- the bit that comes next
ahead : (c : In-loop-i) → Going c.args.o.now c.args.at (bits_of c.args.w c.args.v) c.loop-i.o c.loop-i.p
    ((eqb (bit_and (c.args.v / 2 ^ (c.loop-i.i - 1)) 1) 1 ∷ []) ++ bits_of (c.loop-i.i - 1) c.args.v)
ahead c =
    going-as c.loop-i.invariant (field_next c.loop-i.i c.args.v _ (omega arith) (bit_test c.args.v (c.loop-i.i - 1)))

pub put_bit-p-requires : goal.put_bit-p-requires
put_bit-p-requires c = going-ready (_ ∷ []) _ (ahead (goal.at.put_bit-p-requires c).In-loop-i)

pub loop-i-preserved : goal.loop-i-preserved
loop-i-preserved c = going_next (ahead (goal.at.loop-i-preserved c).In-loop-i) c.put_bit-p.ensures c.put_bit-p.auto.o

pub returns : goal.returns
returns c = going_done (going-as c.loop-i.invariant (field-none _ _ (omega arith)))
