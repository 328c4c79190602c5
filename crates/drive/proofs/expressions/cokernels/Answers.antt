-- The answers of `drive::expressions::cokernels`.
use Rattle.std.proofs.Common.{sym, arith}
use Rattle.std.proofs.lemmas.List.{length-take-le}
use Rattle.drive.proofs.expressions.cokernels.Goals as goal

pub slice_bounds-cokernels-end : goal.slice_bounds-cokernels-end
slice_bounds-cokernels-end c = sym (length-take-le _ _ (omega (arith, c.in_ok-n.ensures.within, c.numbers.auto.pool)))
