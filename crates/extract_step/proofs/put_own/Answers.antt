-- `extract_step::put_own` meets its contract: the part, and after it the other part of a sum. Assumes nothing.
use Prim.Native.Nat.{◌≤◌}
use mathlib.Core.Path.{sym, ap, ◌∙◌}
use mathlib.Core.List.{[], ◌∷◌}
use native.Mathlib.Omega.{arith}
use lib.ListN.{length}
use Rattle.cube.specs.Cube.{lits}
use Rattle.extract_laws.specs.Divisor.{own, part}
use Rattle.extract_divisor.specs.{Divisor.divisor_of, declared.Divisor.Divisor, declared.Divisor.TheVariants.Pair, declared.Divisor.TheVariants.Sum}
use Rattle.expression.proofs.Words.{cubes-few}
use Rattle.expression.proofs.Placing.{appends-none, appends-as, appends-put}
use Rattle.extract_step.proofs.put_own.Goals as goal

-- one cube at least
own-some : (d : Divisor) → 1 ≤ length (own (divisor_of d))
own-some (Pair p q) = omega arith
own-some (Sum a e) = omega arith

pub overflow_add-next : goal.overflow_add-next
overflow_add-next c = record { fits = omega (arith, c.requires.1, own-some c.args.d, cubes-few c.args.out.now) }

pub overflow_add-result : goal.overflow_add-result
overflow_add-result c =
    record { fits = omega (arith, c.requires.1, ap (λ d. length (own (divisor_of d))) c.in-Sum.is, cubes-few c.args.out.now) }

pub returns-in-Pair : goal.returns-in-Pair
returns-in-Pair c =
    let e = c.in-Pair.is in
    appends-as (ap (◌∷ []) (c.part_of.ensures ∙ ap (λ d. part (divisor_of d)) e) ∙ sym (ap (λ d. own (divisor_of d)) e))
    (appends-put (appends-none _ _) (omega (arith, c.requires.1, ap (λ d. length (own (divisor_of d))) e)) c.put_cube.ensures)

pub returns-in-Sum : goal.returns-in-Sum
returns-in-Sum c =
    let e = c.in-Sum.is in
    let n = ap (λ d. length (own (divisor_of d))) e in
    appends-as (ap (◌∷ lits c.in-Sum.b ∷ []) (c.part_of.ensures ∙ ap (λ d. part (divisor_of d)) e) ∙ sym (ap (λ d. own (divisor_of d)) e))
    (appends-put (appends-put (appends-none _ _) (omega (arith, c.requires.1, n)) c.put_cube.ensures) (omega (arith, c.requires.1, n)) c.put_cube-in-Sum.ensures)
