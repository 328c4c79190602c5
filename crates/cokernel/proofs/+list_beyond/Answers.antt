-- `cokernel::list_beyond` meets its contract: those with the literal j, then those without it. Assumes nothing.
use native.Mathlib.Omega.{arith}
use Prim.Native.Nat.{ℕ}
use mathlib.Core.Path.{sym, ◌∙◌}
use Rattle.cube.{proofs.Lits.lits-asc, specs.Cube.lits}
use Rattle.expression.specs.Words.{cubes_of}
use Rattle.cokernel.specs.Parts.{Walked}
use Rattle.cokernel.proofs.Steps.{with_it, beyond-end, beyond-next, beyond-last, walks-with, walked-still, walked_then, walked-only}
use Rattle.cokernel.proofs.+list_beyond.Goals as goal
use Rattle.cokernel.proofs.+list_beyond.Goals.{Joined-b, then-b, else-b}

pub returns-then-j-eq-LITERALS : goal.returns-then-j-eq-LITERALS
returns-then-j-eq-LITERALS t c = rw (beyond-end _ _ _ c.if-j-eq-LITERALS.true) (walked-still _ _ _ _ (omega arith))

pub list_beyond-at-requires : goal.list_beyond-at-requires
list_beyond-at-requires t c = (
  omega arith,
  (
    walks-with _ _ _ _ c.requires.walks (lits-asc c.args.p) _ _ _ _ (omega arith) c.branch_at-b.ensures,
    omega (arith, c.put_if-next.ensures.next),
  ),
)

-- those with j are counted, and stand where there is room
with-j : (t : ℕ) (c : Joined-b t) → Walked c.args.o.now c.if-b.o c.args.most c.args.i
    (with_it (cubes_of c.args.f.now) c.args.j (lits c.branch_at-b.result.cube) c.branch_at-b.result.opened c.branch_at-b.result.closed) c.if-b.at
with-j t c =
    let r = c.branch_at-b.result in
    elim c.if-b.branch [
      | then-b w ↦ rw (w.o-is, w.at-is, w.if-b.true) (walked_then (walked-only _ r.closed (lits r.cube) (omega arith) w.put_if-next.ensures) w.list_beyond-at.ensures)
      | else-b w ↦ rw (w.o-is, w.at-is, w.if-b.false) (walked-still _ _ _ _ (omega arith))
    ]

pub returns-then-has : goal.returns-then-has
returns-then-has t c =
    rw (beyond-last _ _ _ _ c.requires.walks (lits-asc c.args.p) _ _ _ _ (omega arith) c.branch_at-b.ensures (sym c.has.ensures ∙ c.if-has.true))
    (with-j t (goal.at.returns-then-has t c).Joined-b)

pub returns : goal.returns
returns t c =
    rw (beyond-next _ _ _ (omega arith) _ _ _ _ c.branch_at-b.ensures) (walked_then (with-j t (goal.at.returns t c).Joined-b) c.list_beyond.ensures)
