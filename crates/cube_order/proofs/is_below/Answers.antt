-- `cube_order::is_below` meets its contract: the first literal of no variable below v is sought. Assumes nothing.
use Prim.Native.Nat.{ℕ, ◌*◌}
use mathlib.Core.Path.{◌≡◌, ◌∙◌, ap}
use mathlib.Core.Bool.{not}
use native.Mathlib.Omega.{arith}
use Rattle.sets.specs.{Lists.is_some, Sets.first_from}
use Rattle.cube.{specs.Cube.lits, proofs.Lits.lits-asc, proofs.Lits.lits-inside}
use Rattle.cube_order.proofs.{Below.all-below, Below.first_below}
use Rattle.cube_order.proofs.is_below.Goals as goal

pub returns-then-v-ge-VARIABLES : goal.returns-then-v-ge-VARIABLES
returns-then-v-ge-VARIABLES c =
    let a = c.args in
    all-below a.v (lits a.c) (λ x m. omega (arith, c.if-v-ge-VARIABLES.true, lits-inside a.c x m))

pub returns : goal.returns
returns c =
    let e : c.plain.result.0 ≡ 2 * c.args.v = omega (arith, c.plain.ensures, c.if-v-ge-VARIABLES.false) in
    ap not (c.goes_on.ensures ∙ ap (λ (l : ℕ). is_some (first_from l (lits c.args.c))) e)
    ∙ first_below c.args.v (lits c.args.c) (lits-asc c.args.c)
