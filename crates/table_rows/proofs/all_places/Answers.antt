-- `table_rows::all_places` meets its contract. Assumes nothing.
use Rattle.std.proofs.{Common.rules, Common.tests, lemmas.Iterator.YieldsList-from_slice}
use Rattle.sets.proofs.Chains.{all-chain}
use Rattle.table_rows.specs.Lines.{is_place}
use Rattle.table_rows.proofs.all_places.Goals as goal

pub returns : goal.returns
returns c = all-chain is_place _ _ _ c.all.ensures.ran (YieldsList-from_slice c.args.p.now cc) (λ x b q k. search (rules, tests))
