-- `cube::with` meets its contract: the bit of the literal is set in the mask of its polarity. Assumes nothing.
use Prim.Native.Nat.{ℕ}
use mathlib.Core.Path.{◌∙◌, ap₂}
use lib.Bits.{bit_or}
use Rattle.sets.{specs.Masks.literals, proofs.Literals.literals-single}
use Rattle.cube.proofs.with.Goals as goal

pub returns : goal.returns
returns c =
    let a = c.args in
    ap₂ (λ (x y : ℕ). literals 64 (bit_or a.c.plain x) (bit_or a.c.negated y)) c.bit.ensures c.bit-2.ensures
    ∙ literals-single 64 a.l.0 a.c.plain a.c.negated
