-- `image_write::put_field` meets its contract. The loop's invariant: the bits below i are left. Assumes nothing.
use Rattle.image_fields.specs.Fields.{bits_of}
use Rattle.image_write.proofs.Laying.{Going}
use Rattle.image_write.proofs.put_field.Given as goal

abbrev pub invariant-loop-i : goal.invariant-loop-i
invariant-loop-i l = Going l.fn.o l.at (bits_of l.w l.v) l.o l.p (bits_of l.i l.v)
