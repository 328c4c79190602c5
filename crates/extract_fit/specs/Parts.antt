-- What the parts of the test promise each other.
use Rattle.std.specs.Prelude.{ℕ}
use mathlib.Core.{Bool.Bool, Bool.◌&&◌, List.List}
use Rattle.sets.specs.Sets.{proper, reads_below}
use Rattle.extract_laws.specs.Divisor.{small}

-- one or two literals, no variable both ways, each of a variable below v
abbrev pub fit_part : ℕ → List ℕ → Bool
fit_part v a = small a && (proper a && reads_below v a)
