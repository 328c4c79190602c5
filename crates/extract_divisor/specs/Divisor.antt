-- Divisors and steps as values, and what the test of a use answers.
use Rattle.std.specs.Prelude.{ℕ, pos}
use mathlib.Core.{Bool.Bool, Bool.◌&&◌, List.List}
use Rattle.sets.specs.Lists.{is_some}
use Rattle.sets.specs.Sets.{sub, apart, union, without}
use Rattle.cube.specs.Cube.{lits}
use Rattle.expression_survey.specs.Search.{find_in}
use Rattle.extract_laws.specs.Divisor as divisor
use Rattle.extract_laws.specs.{Divisor.pair, Divisor.sum, Run.Weighed}
use Rattle.extract_divisor.specs.declared.{Divisor.Divisor, Divisor.TheVariants.Pair, Divisor.TheVariants.Sum}
use Rattle.extract_divisor.specs.declared.Step.{Step}

-- the divisor that a value means
abbrev pub divisor_of : Divisor → divisor.Divisor
divisor_of (Pair p q) = pair p.0 q.0
divisor_of (Sum a b) = sum (lits a) (lits b)

abbrev pub weighed_of : Step → Weighed
weighed_of s = record { divisor = divisor_of s.divisor; weight = s.weight; uses = s.uses }

-- the step of zeros
abbrev pub no_step : Step
no_step = record { divisor = Pair (record { 0 = 0 }) (record { 0 = 0 }); weight = pos 0; uses = 0 }

-- c is base ∪ a, of a base that shares no literal with b, and halving finds base ∪ b in f
unfoldable pub found_use : List ℕ → List ℕ → List (List ℕ) → List ℕ → Bool
found_use a b f c = sub a c && (apart (without c a) b && is_some (find_in (union (without c a) b) f))
