-- `extract_step::part_of` meets its contract: a pair's two literals, or the sum's first part. Assumes nothing.
use Prim.Native.Nat.{ℕ, ◌*◌}
use mathlib.Core.Path.{◌≡◌, ◌∙◌, ap, subst}
use mathlib.Core.{Bool.true, List.[], List.◌∷◌}
use native.Mathlib.Omega.{arith}
use borrow.Author.Tests.{lt-ltb, le-ltb, ne_eqb}
use Rattle.sets.specs.Sets.{insert}
use Rattle.cube.specs.Cube.{width, joined}
use Rattle.extract_laws.specs.Divisor.{pair}
use Rattle.extract_divisor.specs.Divisor.{divisor_of}
use Rattle.extract_fit.{specs.Fitness.fitting, proofs.Fitting.pair-below}
use Rattle.extract_step.proofs.part_of.Goals as goal

-- the two literals of a pair, the smaller first, as a cube
pair-part : (p q : ℕ) → fitting width (pair p q) ≡ true → joined q (joined p []) ≡ p ∷ q ∷ []
unfolding insert
pair-part p q h =
    let w = pair-below width p q h in
    rw (lt-ltb q (2 * width) (omega arith), lt-ltb p (2 * width) (omega arith), le-ltb q p (omega arith), ne_eqb q p (λ e. omega arith))

pub returns-in-Pair : goal.returns-in-Pair
returns-in-Pair c =
    let p = c.in-Pair.p.0 in
    let q = c.in-Pair.q.0 in
    rw c.in-Pair.is
    (c.with-in-Pair.ensures
    ∙ ap (joined q) (c.with.ensures ∙ ap (joined p) c.empty.ensures)
    ∙ pair-part p q (subst (λ e. fitting width (divisor_of e) ≡ true) c.in-Pair.is c.requires))
