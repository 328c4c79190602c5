-- `image_read::network_of` meets its contract. The fields before the nodes, and then the nodes. Assumes nothing.
use borrow.Author.Rules.{rules}
use Rattle.image_read.proofs.{Telling.read-refused, Telling.read-on}
use Rattle.image_read.proofs.network_of.Goals as goal

pub returns-in_err-front : goal.returns-in_err-front
returns-in_err-front c =
    let q = read-refused c.args.bytes.now _ (rw c.in_err-front.was at c.front.ensures) in
    search (rules, q)

pub returns : goal.returns
returns c = rw (read-on c.args.bytes.now _ (rw c.in_ok-front.was at c.front.ensures).is) c.body.ensures
