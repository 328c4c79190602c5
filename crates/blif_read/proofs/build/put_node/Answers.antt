-- `blif_read::build::put_node` meets its contract: the variables marked are those that the block reads, its rows are put as cubes, and these are sorted.
-- Assumes nothing.
use native.Mathlib.Omega.{arith}
use Rattle.expression.{proofs.Words.cubes-few, proofs.Placing.placed-sort}
use Rattle.blif_form.proofs.Blocking.{named_for, block-blocked, block-ascends}
use Rattle.blif_read.proofs.Putting.{node-few, node-put}
use Rattle.blif_read.proofs.build.put_node.Goals as goal

pub returns-in_default : goal.returns-in_default
returns-in_default c = (
  λ m b more l d h w k. let o = block-blocked h in absurd (c.in_default.ensures.none (named_for b) o.rest (block-ascends h.formed d l) o.names),
  omega arith,
)

pub returns-then-r-gt-MOST_VARIABLES : goal.returns-then-r-gt-MOST_VARIABLES
returns-then-r-gt-MOST_VARIABLES c =
    (λ m b more l d h w k. absurd (omega (arith, node-few c.in-Some.ensures h w, c.if-r-gt-MOST_VARIABLES.true)), omega arith)

pub returns : goal.returns
returns c = (
  λ m b more l d h w i.
      let q = node-put c.in-Some.ensures h w c.marked-vars.ensures c.put_rows-count.ensures i in
      (q.0, placed-sort q.1 (omega arith) (omega (arith, q.0)) c.sort_part.ensures),
  c.put_rows-count.ensures.within,
)

pub overflow_add-at : goal.overflow_add-at
overflow_add-at c = omega (arith, c.put_rows-count.ensures.within, c.ranges.at, cubes-few c.args.words.now)
