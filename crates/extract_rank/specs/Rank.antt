-- Which of two steps is the better.
use Rattle.std.specs.Prelude.{Bool, cond, ◌&&◌, ℤ, pos}
use Rattle.std.specs.Int.Signed.{lt_z}
use Rattle.sets.specs.Sets.{lex}
use Rattle.extract_laws.specs.Extract.{sooner}
use Rattle.extract_divisor.specs.{Divisor.divisor_of, declared.Step.Step}

-- the weight w is above 0, and greater than x, or the same and b
unfoldable pub outweighs : ℤ → ℤ → Bool → Bool
outweighs w x b = lt_z (pos 0) w && lex (λ u v. lt_z v u) w x b

-- the better of the step that is held and a new one, which is taken only where its weight is above 0
unfoldable pub taken : Step → Step → Step
taken s t = cond (outweighs t.weight s.weight (sooner (divisor_of t.divisor) (divisor_of s.divisor))) t s
