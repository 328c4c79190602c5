-- `extract_fit::is_sum` meets its contract: each part is tested, then what they share and which comes first. Assumes nothing.
use Rattle.std.proofs.Common.{arith}
use Rattle.std.proofs.lemmas.Grind.{common_steps}
use Rattle.sets.{proofs.Sets.meet-none}
use Rattle.cube.{specs.Cube.lits, specs.Cube.order_of, proofs.Lits.lits-asc}
use Rattle.extract_fit.proofs.{Fitting.sum_fits}
use Rattle.extract_fit.proofs.is_sum.Goals as goal

pub returns-then-is_empty : goal.returns-then-is_empty
unfolding order_of
returns-then-is_empty c =
    rw (sum_fits c.args.v (lits c.args.a) (lits c.args.b) (lits-asc c.args.a) (lits-asc c.args.b), ← meet-none (lits c.args.a) (lits c.args.b))
    (grind (arith, common_steps))

pub returns-else-is_empty : goal.returns-else-is_empty
returns-else-is_empty c =
    rw (sum_fits c.args.v (lits c.args.a) (lits c.args.b) (lits-asc c.args.a) (lits-asc c.args.b), ← meet-none (lits c.args.a) (lits c.args.b))
    (grind (arith, common_steps))
