-- The answers of `table::build`.
use Prim.Native.Nat.{ℕ}
use native.Mathlib.Omega.{arith}
use lib.ListN.{length-replicate}
use Rattle.sets.specs.Lists.{from}
use Rattle.expression.proofs.Words.{room-cubes}
use Rattle.network.{specs.Handed.cube_slots, specs.Handed.word_slots, proofs.Laying.laid_none}
use Rattle.table.proofs.Building.{laid-room, laid-output, laid-outputs}
use borrow.Author.Rules.{rules}
use Rattle.table.proofs.build.Goals as goal

pub loop-j-init : goal.loop-j-init
unfolding from
loop-j-init c = (length-replicate {A = ℕ} word_slots 0, laid_none)

pub fill_output-to-requires : goal.fill_output-to-requires
fill_output-to-requires c =
    laid-room c.requires c.loop-j-test.true c.loop-j.invariant.1 (room-cubes _ cube_slots c.loop-j.invariant.0)

pub loop-j-preserved : goal.loop-j-preserved
loop-j-preserved c =
    (search rules, laid-output c.requires c.loop-j-test.true c.loop-j.invariant.1 c.fill_output-to.ensures)

pub returns : goal.returns
returns c = laid-outputs c.requires _ (omega arith) c.loop-j.invariant.1

pub overflow_sub-counts : goal.overflow_sub-counts
overflow_sub-counts c = omega (arith, c.fill_output-to.ensures.next)
