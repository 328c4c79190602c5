-- `cube_order::lowest` meets its contract. Assumes nothing.
use borrow.Author.Rules.{rules}
use Rattle.sets.proofs.Digits.{trailing-bit, trailing_below, trailing_lt}
use Rattle.cube_order.proofs.lowest.Goals as goal

pub returns : goal.returns
returns c = record { inside = trailing_lt 64 _ c.requires (search rules); is_set = trailing-bit 64 _ c.requires (search rules); clear = trailing_below 64 _ }
