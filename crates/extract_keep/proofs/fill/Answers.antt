-- `extract_keep::fill` meets its contract: a table without entries is filled, and has room. Assumes nothing.
use borrow.Author.Rules.{rules}
use Rattle.network.proofs.Handing.{shape_of}
use Rattle.extract_keep.proofs.{Filling.filled}
use Rattle.extract_keep.proofs.fill.Goals as goal

pub returns-then-is_arranged : goal.returns-then-is_arranged
returns-then-is_arranged c =
    filled _ (shape_of _ (search rules) (search rules)) _ _ _ _ c.clear.ensures c.fill_nodes.ensures
