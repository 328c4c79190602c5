-- `division::accept_divisor` meets its contract: 8 where the number of cubes is 0. Assumes nothing.
use mathlib.Core.Path.{sym, ◌∙◌}
use Rattle.division.proofs.{Refusing.no-cubes, Refusing.some-cubes}
use Rattle.division.proofs.accept_divisor.Goals as goal

pub returns-then-number-eq0 : goal.returns-then-number-eq0
returns-then-number-eq0 c = no-cubes _ (sym c.number.ensures ∙ c.if-number-eq0.true)

pub returns : goal.returns
returns c = some-cubes _ (λ z. c.if-number-eq0.false (c.number.ensures ∙ z))
