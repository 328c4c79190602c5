-- A run of a number of steps, and why it stops.
use Rattle.std.specs.Prelude.{cond, List, [], ◌∷◌, ℕ, zero, suc, ltb, ℤ, pos}
use Rattle.std.proofs.Math.Option.{Option, none, some}
use Rattle.std.specs.Int.Signed.{lt_z}
use Rattle.expression.specs.Expression.{sort}
use Rattle.network.specs.Net.{Net, variables, cube_count, literal_count}
use Rattle.network.specs.{Map.map_nodes, Held.most_variables, Held.most_cubes}
use Rattle.extract_laws.specs.Divisor.{Divisor}
use Rattle.extract_laws.specs.Extract.{all_uses, weight, best, next_free, step}

pub data Stop : Type 0 where
  done asked numbers rows : Stop

-- a divisor with its weight and uses
pub record Weighed : Type 0 where
  pub divisor : Divisor
  pub weight : ℤ
  pub uses : ℕ

-- a step made: its divisor with weight and uses, the number of its node, and the literal count of the network after it
pub record Made : Type 0 where
  pub divisor : Divisor
  pub weight : ℤ
  pub uses : ℕ
  pub number : ℕ
  pub literals : ℕ

pub record Result : Type 0 where
  pub network : Net
  pub stop : Stop
  pub steps : List Made

-- what a network allows: nothing, a divisor that there is no room for, or a divisor
pub data Move : Type 0 where
  finished : Move
  stuck : Stop → Move
  makes : Divisor → Move

-- numbers: 64 variables; rows: the step would pass 1,088 cubes
unfoldable pub room_for : Net → Divisor → Move
room_for n d = cond (ltb (variables n) most_variables) (cond (ltb most_cubes (cube_count (step n d))) (stuck rows) (makes d)) (stuck numbers)

-- done: no divisor with weight above 0
unfoldable pub choose : Net → Option Divisor → Move
choose n none = finished
choose n (some d) = cond (lt_z (pos 0) (weight n d)) (room_for n d) finished

unfoldable pub move_of : Net → Move
move_of n = choose n (best n)

-- no step is left to make: done comes before asked, and asked before the others
abbrev pub ended : Move → Stop
ended finished = done
ended (stuck r) = asked
ended (makes d) = asked

abbrev pub weighing : Net → Divisor → Weighed
weighing n d = record { divisor = d; weight = weight n d; uses = all_uses n d }

abbrev pub making : Net → Divisor → Made
making n d = record { divisor = d; weight = weight n d; uses = all_uses n d; number = next_free n; literals = literal_count (step n d) }

-- what is done to a network before each step, and before the stop is judged: nothing
unfoldable pub prepare : Net → Net
prepare n = n

-- from a network that is prepared
unfoldable pub run_from : ℕ → Net → Result
run_from zero n = record { network = n; stop = ended (move_of n); steps = [] }
run_from (suc k) n = elim (move_of n) [
  | finished ↦ record { network = n; stop = done; steps = [] }
  | stuck r ↦ record { network = n; stop = r; steps = [] }
  | makes d ↦ let r = run_from k (prepare (step n d)) in record { network = r.network; stop = r.stop; steps = making n d ∷ r.steps }
]

-- the cubes of every node in cube order
unfoldable pub in_order : Net → Net
in_order n = map_nodes sort n

-- the network that a run starts from: in cube order, and prepared
abbrev pub start_of : Net → Net
start_of n = prepare (in_order n)

-- a run of k steps
unfoldable pub run : ℕ → Net → Result
run k n = run_from k (start_of n)

-- the steps that the program asks for
abbrev pub asked_steps : ℕ
asked_steps = 64
