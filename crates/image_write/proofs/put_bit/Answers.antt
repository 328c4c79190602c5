-- `image_write::put_bit` meets its contract: a new byte, or one more bit in the last. Assumes nothing.
use mathlib.Core.Path.{refl}
use Rattle.image_write.proofs.Laying.{bit-new, bit-old, bit-fits}
use Rattle.image_write.proofs.put_bit.Goals as goal
use Rattle.image_write.proofs.put_bit.Goals.{then-r-eq0, else-r-eq0}

pub overflow_add-o : goal.overflow_add-o
overflow_add-o c =
    let q = c.requires in
    record { fits = bit-fits q.old q.bits c.args.b q.number q.bytes c.worth-x.ensures q.room c.if-r-eq0.false }

pub returns : goal.returns
returns c =
    let r = c.requires.room in
    record {
      place = refl;
      adds = λ l old n e. elim c.if-r-eq0.branch [
        | then-r-eq0 w ↦ rw w.o-is (bit-new old l _ n e c.worth-x.ensures r w.if-r-eq0.true)
        | else-r-eq0 w ↦ rw w.o-is (bit-old old l _ n e c.worth-x.ensures r w.if-r-eq0.false)
      ];
    }
