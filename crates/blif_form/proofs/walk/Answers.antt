-- The answers of `blif_form::walk`.
use mathlib.Core.Path.{◌∙◌}
use native.Mathlib.Omega.{arith}
use Rattle.blif_form.proofs.Surveying.{passed-more, walked, walked-endless, walked-not}
use Rattle.blif_form.proofs.walk.Goals as goal

pub returns-in_err-b : goal.returns-in_err-b
returns-in_err-b c = rw c.from_residual.ensures (walked-not c.loop-q.invariant.0 c.in-Some.q c.in-Some.ensures.0 c.in_err-b.ensures.0)

pub loop-q-preserved : goal.loop-q-preserved
loop-q-preserved c = (
  passed-more c.loop-q.invariant.0 c.in-Some.q c.in-Some.ensures.0 c.in_ok-b.b c.in_ok-b.ensures.0 _ _ (omega arith) (omega arith),
  c.read_block.ensures.1 ∙ c.loop-q.invariant.1,
)

pub returns-then-is_end : goal.returns-then-is_end
returns-then-is_end c = walked c.loop-q.invariant.0 c.if-is_end.ensures

pub returns-else-is_end : goal.returns-else-is_end
returns-else-is_end c = walked-endless c.loop-q.invariant.0 c.in_default.ensures c.if-is_end.ensures
