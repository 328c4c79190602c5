-- `before::by_kind` meets its contract. Assumes nothing.
use mathlib.Core.Logic.{inl, inr}
use Rattle.spindle.specs.Before.{by_kind}
use Rattle.spindle.proofs.before.by_kind.Goals as goal

pub returns-in-Inputs : goal.returns-in-Inputs
unfolding by_kind
returns-in-Inputs c = rw c.in-Inputs.is

pub returns-in-Outputs : goal.returns-in-Outputs
unfolding by_kind
returns-in-Outputs c = rw c.in-Outputs.is

pub returns-in-Products : goal.returns-in-Products
unfolding by_kind
returns-in-Products c = rw c.in-Products.is

pub returns-in-Other : goal.returns-in-Other
unfolding by_kind
returns-in-Other c = rw c.in-Other.is

pub returns-in-Empty : goal.returns-in-Empty
unfolding by_kind
returns-in-Empty c = elim c.in-Empty.is [ inl e ↦ rw e | inr e ↦ rw e ]
