-- The answers of `extract::follow`.
use Prim.Native.Nat.{suc, ◌+◌, ◌-◌}
use mathlib.Core.Path.{◌≡◌, sym, ap, ◌∙◌, subst}
use mathlib.Core.Bool.{true}
use native.Mathlib.Omega.{arith}
use borrow.Author.Rules.{rules}
use lib.IntN.{pos, ◌-ℤ◌}
use lib.Signed.{le_z, lt_z}
use mir.Syntax.{w32}
use mir.Val.{to_z, of_z}
use mir.Facts.{to_z-of_z}
use Rattle.std.proofs.Math.Nat.{sub-zero}
use Rattle.network.proofs.Handing.{shape_of}
use Rattle.extract.specs.Parts.{Leaves}
use Rattle.extract.proofs.Going.{le_not, not-le, going-first, going-room, going_done, going-ended, going-leaves, going-full, going_on}
use Rattle.extract.proofs.follow.Goals as goal
use Rattle.extract.proofs.follow.Goals.{Else-s-le0}

-- ---- what holds there

-- the weight read is the step's
read : (c : Else-s-le0) → let w = c.loop.s.weight in to_z w32 (of_z w32 w) ≡ w
read c = to_z-of_z {w = w32} {z = c.loop.s.weight} (search rules)

-- what the test says of it
above : (c : Else-s-le0) → lt_z (pos 0) c.loop.s.weight ≡ true
above c = not-le c.loop.s.weight (ap (λ w. le_z w (pos 0)) (sym (to_z-of_z {w = w32} {z = c.loop.s.weight} (search rules))) ∙ c.if-s-le0.false)

-- a step is left to make
still : (c : Else-s-le0) → c.args.steps - c.loop.counter ≡ suc (c.args.steps - (c.loop.counter + 1))
still c = omega arith

pub loop-init : goal.loop-init
loop-init c =
    let b = c.first_best-s.ensures c.requires in record {
      going = rw (sub-zero c.args.steps, c.no_steps-made.ensures)
          (going-first c.args.steps c.args.n c.literals_of-literals.result c.first_best-s.result
          (shape_of _ (search rules) (search rules)) c.requires c.literals_of-literals.ensures b.0);
      says = b.1;
    }

pub returns-then-s-le0 : goal.returns-then-s-le0
returns-then-s-le0 c =
    let w = c.loop.s.weight in
    rw c.ending.ensures
    (going_done c.loop.invariant.going (le_not w (ap (λ w. le_z w (pos 0)) (sym (to_z-of_z {w = w32} {z = w} (search rules))) ∙ c.if-s-le0.true)))

pub returns-in_default : goal.returns-in_default
returns-in_default c =
    let e = (goal.at.returns-in_default c).Else-s-le0 in
    rw (c.ending-in_default.ensures, c.reason.ensures)
    (going-full c.loop.invariant.going (above e) _ (still e) c.step-next.result c.step-next.ensures c.in_default.not-Made)

pub taken_off-rest-requires : goal.taken_off-rest-requires
taken_off-rest-requires c =
    let e = (goal.at.taken_off-rest-requires c).Else-s-le0 in subst (Leaves c.loop.literals) (sym (read e)) (going-leaves c.loop.invariant.going (above e))

pub bounds-made-made : goal.bounds-made-made
bounds-made-made c = going-room c.loop.invariant.going

pub loop-preserved : goal.loop-preserved
loop-preserved c =
    let e = (goal.at.loop-preserved c).Else-s-le0 in
    let g = going_on c.loop.invariant.going (above e) _ (still e) c.step-next.result c.step-next.ensures (shape_of _ (search rules) (search rules))
    c.taken_off-rest.result (c.taken_off-rest.ensures ∙ ap (pos c.loop.literals -ℤ◌) (read e))
    c.made_by.result c.made_by.ensures c.next_best-s.result (λ r. (c.next_best-s.ensures c.loop.invariant.says r).0) c.in-Made.is in
    record { going = g; says = (c.next_best-s.ensures c.loop.invariant.says g.ready).1 }

pub returns : goal.returns
returns c =
    rw (c.ending-2.ensures, c.ended.ensures, to_z-of_z {w = w32} {z = c.loop.s.weight} (search rules))
    (going-ended c.loop.invariant.going (omega arith))
