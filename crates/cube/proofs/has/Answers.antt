-- `cube::has` meets its contract: a literal is held where its bit is in the mask of its polarity. Assumes nothing.
use Prim.Native.Nat.{ℕ}
use mathlib.Core.{Path.◌∙◌, Path.ap₂, Bool.not}
use lib.Bits.{bit_and, bit_or}
use lib.Dec.{eqb}
use Rattle.sets.proofs.Literals.{mem-single}
use Rattle.cube.proofs.has.Goals as goal

pub returns : goal.returns
returns c =
    let a = c.args in
    ap₂ (λ (x y : ℕ). not (eqb (bit_or (bit_and a.c.plain x) (bit_and a.c.negated y)) 0)) c.bit.ensures
    c.bit-2.ensures
    ∙ mem-single 64 a.l.0 a.c.plain a.c.negated
