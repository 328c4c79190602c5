-- `blif_lines::all_once` meets its contract. Assumes nothing.
use Rattle.std.proofs.Common.{rules, tests, eqb}
use Rattle.std.proofs.lemmas.Iterator.{YieldsList-from_slice, YieldsList-from_take}
use Rattle.sets.proofs.Chains.{all-chain}
use Rattle.blif_lines.proofs.all_once.Goals as goal

pub returns : goal.returns
returns c =
    all-chain (λ x. eqb x 1) _ _ _ c.all.ensures.ran (YieldsList-from_take c.args.k (YieldsList-from_slice c.args.marks.now cc) c.take.ensures.count)
    (λ x b q k. search (rules, tests))
