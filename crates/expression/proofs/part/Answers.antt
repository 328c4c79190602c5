-- `expression::part` meets its contract: the words from the first cube's to the last one's. Assumes nothing.
use Rattle.expression.proofs.{Words.part_of}
use Rattle.expression.proofs.part.Goals as goal

pub returns : goal.returns
returns c = part_of _ _ _ _ _ c.words_of-p.ensures
