-- `division::hand_over` meets its contract: 9 where a room is too small, else both are copied. Assumes nothing.
use mathlib.Core.Path.{ap₂}
use native.Mathlib.Omega.{arith}
use Rattle.division.specs.declared.Division.TheVariants.{Done}
use Rattle.division.proofs.{Listing.copied}
use Rattle.division.proofs.Refusing.{cramped-first, cramped-second, cramped-none, handed-none, handed-all}
use Rattle.division.proofs.hand_over.Goals as goal

pub returns-then-number-k : goal.returns-then-number-k
returns-then-number-k c = handed-none _ _ _ _ (cramped-first _ _ _ _ (omega arith))

pub returns-then-number-m : goal.returns-then-number-m
returns-then-number-m c = handed-none _ _ _ _ (cramped-second _ _ _ _ (omega arith))

pub returns : goal.returns
returns c =
    handed-all _ _ _ _ (cramped-none _ _ _ _ (omega arith) (omega arith)) (ap₂ Done c.number-k.ensures c.number-m.ensures)
    (copied _ c.number-k.ensures (omega arith) c.copy.ensures).placed
    (copied _ c.number-m.ensures (omega arith) c.copy-2.ensures).placed
