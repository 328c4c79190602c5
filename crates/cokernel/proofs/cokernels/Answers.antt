-- `cokernel::cokernels` meets its contract: it counts with no room, and writes only what has room. Assumes nothing.
use mathlib.Core.Path.{◌≡◌, sym, ◌∙◌, ap}
use mathlib.Core.{Option.none}
use Prim.Native.Nat.{◌≤◌}
use lib.ListN.{length}
use Rattle.expression.{specs.Words.cubes_of, specs.Answers.refusal, specs.Answers.refusal_of, proofs.Words.cubes-few}
use Rattle.cokernel.specs.{Cokernels.cokernels}
use native.Mathlib.Omega.{arith}
use Rattle.cokernel.proofs.Telling.{told-refused, told-short, told-all}
use Rattle.cokernel.proofs.cokernels.Goals as goal
use Rattle.cokernel.proofs.cokernels.Goals.{In_default}

pub returns-in-Refused : goal.returns-in-Refused
returns-in-Refused c = told-refused _ _ _ (sym c.accept-v.ensures ∙ ap refusal_of c.in-Refused.is)

accepted : (c : In_default) → refusal c.args.f.now ≡ none
accepted c = sym c.accept-v.ensures ∙ ap refusal_of c.in_default.is

pub overflow_add-most : goal.overflow_add-most
overflow_add-most c = omega (arith, cubes-few c.args.o.now)

pub returns-then-room-n : goal.returns-then-room-n
returns-then-room-n c = told-short _ _ (accepted (goal.at.returns-then-room-n c).In_default) (omega (arith, c.list_all-n.ensures.next))

pub returns : goal.returns
returns c =
    let n = c.list_all-n.ensures.next in
    let few : length (cokernels (cubes_of c.args.f.now)) ≤ length (cubes_of c.args.o.now) = omega (arith, n, c.if-room-n.false) in
    told-all _ _ (accepted (goal.at.returns c).In_default) _ _ few (omega (arith, n)) (c.list_all.ensures.placed (omega arith) (omega arith))
