-- Words for the contracts of the private functions: a network that a run starts from, and how a run is handed back.
use Rattle.std.specs.Prelude.{ℕ, ◌≤◌, ℤ, pos, ◌-ℤ◌}
use mathlib.Core.{Path.◌≡◌, Bool.true, Bool.cond, List.List}
use Rattle.std.specs.Int.Signed.{lt_z}
use Rattle.cube.specs.declared.Variable.{Variable}
use Rattle.network.specs.{Net.nodes, Held.net_of, Held.rules, Held.most_literals}
use Rattle.extract_counts.specs.Counts.{Says}
use Rattle.extract_choice.specs.Choice.{chosen_in, Chosen}
use Rattle.network.specs.{Handed.Holds, declared.Network.Network}
use Rattle.extract_divisor.specs.declared.Step.{Step}
use Rattle.extract_step.specs.declared.Outcome.{Outcome}
use Rattle.extract_tidy.specs.Tidy.{arranged}
use Rattle.extract.specs.declared.{Stop.Stop, Answer.TheVariants.Stopped, Made.Made}
use Rattle.extract.specs.declared.Stop.TheVariants.{Done, Asked, Numbers, Rows}
use Rattle.extract.specs.declared.{Steps.Steps, Ran.Ran}

-- by the rules, in cube order, and zero in the slots that are not in use
pub record Runnable (n : Network) : Type 0 where
  pub lawful : rules n ≡ true
  pub tidy : arranged n ≡ true
  pub held : Holds n (net_of n)

-- the step is the best one of the network, and the table says the gains of all its divisors
abbrev pub Leads : List ℕ → List ℕ → Network → Step → Type 0
Leads t g n s = Chosen (chosen_in n) s × Says t g (nodes (net_of n))

-- a weight taken off a count of literals leaves such a count
pub record Leaves (count : ℕ) (weight : ℤ) : Type 0 where
  pub left : ℕ
  pub is : pos left ≡ pos count -ℤ weight
  pub within : count ≤ most_literals
  pub less : left ≤ most_literals

-- a step that makes the node of a number and leaves so many literals
abbrev pub made_by : Step → Variable → ℕ → Made
made_by s v l = record { divisor = s.divisor; weight = s.weight; uses = s.uses; number = v; literals = l }

-- no step is left to make: done where no weight is above 0, else asked
abbrev pub ended_at : ℤ → Stop
ended_at w = cond (lt_z (pos 0) w) Asked Done

-- why a step was not made; one that was made, or an unfit divisor, which a run never takes, is named as rows are
abbrev pub reason_of : Outcome → Stop
reason_of Outcome.Numbers = Numbers
reason_of Outcome.Made = Rows
reason_of Outcome.Rows = Rows
reason_of Outcome.Unfit = Rows

-- a run that stopped, with the steps that it made
abbrev pub stopped_with : Stop → Network → Steps → Ran
stopped_with s n made = record { answer = Stopped s; network = n; steps = made }
