-- `extract_gains::put` meets its contract: nothing changes, an entry's gain rises, a new entry comes, or the table is full. Assumes nothing.
use Rattle.extract_gains.proofs.Changing.{turns-rise}
use Rattle.extract_gains.proofs.put.Goals as goal

pub returns-in-Some : goal.returns-in-Some
returns-in-Some c =
    turns-rise c.args.key c.in-Some.e c.args.by c.checked_add.result c.in-Some.ensures.0 c.in-Some.ensures.1 c.checked_add.ensures c.set.ensures
