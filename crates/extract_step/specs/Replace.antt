-- What a step answers.
use mathlib.Core.{Path.◌≡◌, Bool.cond, Bool.◌&&◌}
use Rattle.std.proofs.Math.Option.{Option, none, some}
use Rattle.std.specs.Prelude.{ltb}
use Rattle.network.specs.Net.{Net, variables, literal_count}
use Rattle.network.specs.{Held.net_of, Held.most_literals, Handed.Holds, Handed.AllZero, Handed.Shaped, declared.Network.Network}
use Rattle.extract_laws.specs.Divisor as divisor
use Rattle.extract_laws.specs.Extract.{next_free, step}
use Rattle.extract_laws.specs.Run.{Move, finished, stuck, makes, room_for, done, asked, numbers, rows}
use Rattle.extract_tidy.specs.Tidy.{arranged}
use Rattle.extract_divisor.specs.{Divisor.divisor_of, declared.Divisor.Divisor}
use Rattle.extract_fit.specs.Fitness.{fitting}
use Rattle.extract_step.specs.declared.Outcome.TheVariants.{Made, Numbers, Rows, Unfit}
use Rattle.extract_step.specs.declared.Next.{Next}

-- no step is made that passes the most literals
abbrev pub allowed : Net → Move → Option Move
allowed n (makes d) = cond (ltb most_literals (literal_count (step n d))) none (some (makes d))
allowed n (stuck r) = some (stuck r)
allowed n finished = some finished

-- whether the network has a number and rows for the step, where network and divisor are fit for one
unfoldable pub outcome_of : Network → Divisor → Option Move
outcome_of n d = cond (arranged n && fitting (variables (net_of n)) (divisor_of d)) (allowed (net_of n) (room_for (net_of n) (divisor_of d))) none

-- the network after the step, the number of its new node, and its literal count
pub record After (n : Net) (d : divisor.Divisor) (r : Next) : Type 0 where
  pub held : Holds r.network (step n d)
  pub number : r.number.0 ≡ next_free n
  pub literals : r.literals ≡ literal_count (step n d)

-- no step: all zeros
pub record Zeros (r : Next) : Type 0 where
  pub blank : AllZero r.network
  pub number : r.number.0 ≡ 0
  pub literals : r.literals ≡ 0

-- a divisor is taken, or there is no number or no room for its rows; a step never ends a run otherwise
abbrev pub Moved : Network → Move → Next → Type 0
Moved n (makes e) r = (r.outcome ≡ Made) × After (net_of n) e r
Moved n (stuck numbers) r = (r.outcome ≡ Numbers) × Zeros r
Moved n (stuck rows) r = (r.outcome ≡ Rows) × Zeros r
Moved n (stuck done) r = ⊥
Moved n (stuck asked) r = ⊥
Moved n finished r = ⊥

abbrev pub Stepped : Network → Option Move → Next → Type 0
Stepped n (some m) r = Moved n m r
Stepped n none r = (r.outcome ≡ Unfit) × Zeros r

-- of a network that is lent in parts: its step, where there are as many words and counts as a network has; else none
pub record SteppedIn (n : Network) (d : Divisor) (r : Next) : Type 0 where
  pub shaped : Shaped n → Stepped n (outcome_of n d) r
  pub other : (Shaped n → ⊥) → Stepped n none r
