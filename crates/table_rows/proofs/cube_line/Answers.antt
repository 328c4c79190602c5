-- `table_rows::cube_line` meets its contract: the rows are as many as the marks. Assumes nothing.
use Rattle.std.proofs.Common.{arith, map, eqb}
use Rattle.std.proofs.lemmas.Bool.Decides.{nat_tests}
use Rattle.sets.proofs.Packing.{packed-ones}
use Rattle.table_rows.specs.{Lines.cube_line_of, Answers.parsing}
use Rattle.table_rows.proofs.cube_line.Goals as goal

pub returns : goal.returns
unfolding parsing cube_line_of
returns c = let n = packed-ones (map (eqb 49) c.trim_front-o.result.now) in grind (arith, nat_tests)
