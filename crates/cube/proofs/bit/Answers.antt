-- `cube::bit` meets its contract, case by case. Assumes nothing.
use mathlib.Core.Path.{sym, ◌∙◌}
use native.Mathlib.Omega.{arith}
use borrow.Author.Tests.{lt-ltb, le-ltb}
use Rattle.sets.proofs.Digits.{shifted_one}
use Rattle.sets.proofs.Literals.{single-none, single-one, single-other}
use Rattle.cube.proofs.bit.Goals as goal

pub returns-then-l-p : goal.returns-then-l-p
returns-then-l-p c = sym (single-other 64 _ _ c.if-l-p.true)

pub returns-then-l-lt-LITERALS : goal.returns-then-l-lt-LITERALS
returns-then-l-lt-LITERALS c = shifted_one 64 _ (omega arith) ∙ sym (single-one 64 _ _ (lt-ltb _ 128 c.if-l-lt-LITERALS.true) c.if-l-p.false)

pub returns-else-l-lt-LITERALS : goal.returns-else-l-lt-LITERALS
returns-else-l-lt-LITERALS c = sym (single-none 64 _ _ (le-ltb _ 128 c.if-l-lt-LITERALS.false))
