-- The answers of `drive::expressions::factored`.
use Rattle.std.proofs.Common.{sym, arith}
use Rattle.std.proofs.lemmas.List.{length-take-le}
use Rattle.drive.proofs.expressions.factored.Goals as goal

pub slice_bounds-factored-end : goal.slice_bounds-factored-end
slice_bounds-factored-end c = sym (length-take-le _ _ (omega (arith, c.in_ok-n.ensures.within, c.numbers.auto.pool)))
