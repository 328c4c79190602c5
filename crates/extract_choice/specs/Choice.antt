-- What the choice of the best divisor answers.
use mathlib.Core.{Path.◌≡◌, Bool.cond}
use Rattle.std.proofs.Math.Option.{Option, none, some}
use Rattle.std.specs.Prelude.{pos}
use Rattle.std.specs.Int.Signed.{lt_z}
use Rattle.network.specs.{Net.Net, Held.net_of, declared.Network.Network}
use Rattle.extract_laws.specs.Divisor as extraction
use Rattle.extract_laws.specs.{Extract.weight, Extract.best, Run.Weighed, Run.weighing}
use Rattle.extract_tidy.specs.Tidy.{arranged}
use Rattle.extract_divisor.specs.{Divisor.weighed_of, Divisor.no_step, declared.Step.Step}

-- the best divisor, where its weight is above 0, with its weight and uses
unfoldable pub worth_in : Net → Option extraction.Divisor → Option Weighed
worth_in n none = none
worth_in n (some d) = cond (lt_z (pos 0) (weight n d)) (some (weighing n d)) none

-- a network that does not stand in cube order has no choice
unfoldable pub chosen_in : Network → Option Weighed
chosen_in n = cond (arranged n) (worth_in (net_of n) (best (net_of n))) none

abbrev pub Chosen : Option Weighed → Step → Type 0
Chosen (some m) s = weighed_of s ≡ m
Chosen none s = s ≡ no_step
