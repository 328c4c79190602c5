-- `expression::words_of` meets its contract: two words make a cube. Assumes nothing.
use Prim.Native.Nat.{◌*◌, min}
use mathlib.Core.Path.{◌≡◌, ◌∙◌, ap}
use native.Mathlib.Omega.{arith}
use lib.ListN.{length}
use Rattle.expression.specs.Words.{cubes_of}
use Rattle.expression.proofs.{Words.cubes-length}
use Rattle.expression.proofs.words_of.Goals as goal

pub overflow_mul-result : goal.overflow_mul-result
overflow_mul-result c = omega (arith, cubes-length c.args.s.now)

pub overflow_mul-result-2 : goal.overflow_mul-result-2
overflow_mul-result-2 c = omega (arith, cubes-length c.args.s.now)

pub returns : goal.returns
returns c =
    let a = c.args in
    let n = cubes-length a.s.now in
    let h : c.min-high.result ≡ min a.e (length (cubes_of a.s.now)) = c.min-high.ensures
    ∙ ap (min _) c.number.ensures in
    let l : c.min-low.result ≡ min a.a (min a.e (length (cubes_of a.s.now))) = c.min-low.ensures ∙ ap (min _) h in
    record { start = ap (2 *◌) l; stop = ap (2 *◌) h; forth = omega arith; within = omega arith }
