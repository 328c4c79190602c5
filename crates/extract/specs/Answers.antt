-- What a run answers.
use Rattle.std.specs.Prelude.{ℕ, ◌-◌, List, [], map, pos, length, take, drop, replicate}
use mathlib.Core.{Path.◌≡◌, Bool.cond}
use Rattle.std.proofs.Math.Option.{Option, none, some}
use Rattle.network.specs.Held.{net_of, rules, most_variables}
use Rattle.network.specs.{Handed.Holds, Handed.AllZero, declared.Network.Network}
use Rattle.extract_laws.specs.Run as runs
use Rattle.extract_laws.specs.Run.{Result, done, asked, numbers, rows, run}
use Rattle.extract_divisor.specs.{Divisor.divisor_of, declared.Divisor.TheVariants.Pair}
use Rattle.extract.specs.declared.{Stop.Stop, Answer.TheVariants.Stopped, Answer.TheVariants.Refused}
use Rattle.extract.specs.declared.Stop.TheVariants.{Done, Asked, Numbers, Rows}
use Rattle.extract.specs.declared.{Made.Made, Steps.Steps, Ran.Ran}

-- the stop reason that a value means
abbrev pub stop_of : Stop → runs.Stop
stop_of Done = done
stop_of Asked = asked
stop_of Numbers = numbers
stop_of Rows = rows

-- the step made that a value means
abbrev pub made_of : Made → runs.Made
made_of s = record { divisor = divisor_of s.divisor; weight = s.weight; uses = s.uses; number = s.number.0; literals = s.literals }

-- the step of zeros
abbrev pub no_made : Made
no_made = record {
  divisor = Pair (record { 0 = 0 }) (record { 0 = 0 });
  weight = pos 0;
  uses = 0;
  number = record { 0 = 0 };
  literals = 0;
}

-- the places of a list of steps: each step makes a divisor
abbrev pub places : ℕ
places = most_variables

-- no steps made
abbrev pub no_steps : Steps
no_steps = record { count = 0; list = replicate places no_made }

-- the steps that are counted, and those that an answer lists
abbrev pub made_in : Steps → List runs.Made
made_in s = map made_of (take s.count s.list)

abbrev pub steps_of : Ran → List runs.Made
steps_of r = made_in r.steps

-- so many steps, each as it was made, and steps of zeros after them
pub record Lists (s : Steps) (l : List runs.Made) : Type 0 where
  pub number : s.count ≡ length l
  pub steps : made_in s ≡ l
  pub rest : drop s.count s.list ≡ replicate (places - s.count) no_made

-- a run of k steps, of a network by the rules
unfoldable pub run_on : ℕ → Network → Option Result
run_on k n = cond (rules n) (some (run k (net_of n))) none

abbrev pub Told : Option Result → Ran → Type 0
Told (some t) r =
    ((s : Stop) × (r.answer ≡ Stopped s) × (stop_of s ≡ t.stop)) × Holds r.network t.network × Lists r.steps t.steps
Told none r = (r.answer ≡ Refused 10) × AllZero r.network × Lists r.steps []
