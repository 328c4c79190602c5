-- The answers of `blif_read::build::build`.
use Prim.Native.Nat.{ℕ}
use native.Mathlib.Omega.{arith}
use borrow.Author.Rules.{rules}
use lib.ListN.{length-replicate}
use Rattle.expression.proofs.Words.{room-cubes}
use Rattle.network.specs.{Handed.cube_slots, Handed.word_slots}
use Rattle.network.proofs.Laying.{laid_none}
use Rattle.blif_read.proofs.Building.{Whole, built-next, built-all}
use Rattle.blif_read.proofs.build.build.Goals as goal

pub loop-i-init : goal.loop-i-init
loop-i-init c = (length-replicate {A = ℕ} word_slots 0, omega arith, λ bs w. laid_none)

pub overflow_add-at : goal.overflow_add-at
overflow_add-at c = omega (arith, c.put_named-size.ensures.1, room-cubes c.loop-i.out cube_slots c.loop-i.invariant.0)

pub loop-i-preserved : goal.loop-i-preserved
loop-i-preserved c = (
  search rules,
  omega (arith, c.put_named-size.ensures.1, room-cubes c.loop-i.out cube_slots c.loop-i.invariant.0),
  λ bs w. built-next c.requires w (omega arith) c.name_at.ensures (room-cubes c.loop-i.out cube_slots c.loop-i.invariant.0)
      (c.loop-i.invariant.2 bs w) c.put_named-size.ensures.0,
)

pub returns : goal.returns
returns c =
    let a = c.args in
    λ bs blocks small once many known few defined.
    let w : Whole a.s.now a.first a.n a.m a.k bs =
    record { blocks = blocks; small = small; once = once; many = many; known = known; few = few; defined = defined } in
    built-all c.requires w {i = c.loop-i.i} (omega arith) (c.loop-i.invariant.2 bs w)
