-- `image_number::own` meets its contract. Assumes nothing.
use borrow.Author.Rules.{rules}
use Rattle.image_number.proofs.Placing.{itself-all}
use Rattle.image_number.proofs.own.Goals as goal

pub returns : goal.returns
returns c =
    let s = c.from_fn.ensures.items in
    itself-all s.long (λ v h. let k = (s.at v 0 h).2 in search rules)
