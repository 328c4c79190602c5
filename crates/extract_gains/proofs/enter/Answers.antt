-- `extract_gains::enter` meets its contract: a full table stays as it is, and another has one entry more. Assumes nothing.
use Rattle.extract_gains.proofs.{Entering.turns-enter}
use Rattle.extract_gains.proofs.enter.Goals as goal
use Rattle.extract_gains.proofs.enter.Goals.{After-head_of-h}

pub returns : goal.returns
returns c =
    turns-enter c.args.t.now c.args.g.now c.args.key c.args.by c.number-e.result c.head_of-h.result c.number-e.ensures
    c.head_of-h.ensures.is c.if-e-ge-MOST_ENTRIES.false c.requires.0 c.requires.1
