-- `table_rows::all_marks` meets its contract. Assumes nothing.
use Rattle.std.proofs.{Common.rules, Common.tests, lemmas.Iterator.YieldsList-from_slice}
use Rattle.sets.proofs.Chains.{all-chain}
use Rattle.table_rows.specs.Lines.{is_mark}
use Rattle.table_rows.proofs.all_marks.Goals as goal

pub returns : goal.returns
returns c = all-chain is_mark _ _ _ c.all.ensures.ran (YieldsList-from_slice c.args.o.now cc) (λ x b q k. search (rules, tests))
