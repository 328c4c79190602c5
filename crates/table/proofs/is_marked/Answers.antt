-- `table::is_marked` meets its contract. Assumes nothing.
use Rattle.sets.proofs.Digits.{bit_test}
use Rattle.table.proofs.is_marked.Goals as goal

pub returns : goal.returns
returns c = bit_test _ _
