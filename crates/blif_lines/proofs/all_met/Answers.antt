-- `blif_lines::all_met` meets its contract. Assumes nothing.
use Rattle.std.proofs.Common.{rules, tests, leb}
use Rattle.std.proofs.lemmas.Iterator.{YieldsList-from_slice, YieldsList-from_take}
use Rattle.sets.proofs.Chains.{all-chain}
use Rattle.blif_lines.proofs.all_met.Goals as goal

pub returns : goal.returns
returns c =
    all-chain (leb 1) _ _ _ c.all.ensures.ran (YieldsList-from_take c.args.k (YieldsList-from_slice c.args.marks.now cc) c.take.ensures.count)
    (λ x b q k. search (rules, tests))
