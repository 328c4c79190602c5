-- `division::lesser` meets its contract: by the cases of both. Assumes nothing.
use Rattle.division.proofs.Refusing.{lesser-one, lesser-second, lesser-first}
use Rattle.division.proofs.lesser.Goals as goal

pub returns-in_default-b : goal.returns-in_default-b
returns-in_default-b c = lesser-one _ _ _ c.in-Refused.is c.in_default-b.is

pub returns-then-l-k : goal.returns-then-l-k
returns-then-l-k c = lesser-second _ _ _ c.in-Refused.is _ c.in-Refused-b.is c.if-l-k.true

pub returns : goal.returns
returns c = lesser-first _ _ _ c.in-Refused.is _ c.in-Refused-b.is c.if-l-k.false
