-- The answers of `image_read::all_tidy`.
use Rattle.std.proofs.Common.{rules}
use borrow.Author.Tests.{tests}
use Rattle.network_nodes.proofs.Chains.{all-nodes}
use Rattle.image_read.specs.Parts.{tidy}
use Rattle.image_read.proofs.all_tidy.Goals as goal

pub returns : goal.returns
returns c = all-nodes tidy c.all.new.self _ _ c.all.ensures.ran c.each.ensures (λ x b q k. search (rules, tests))
