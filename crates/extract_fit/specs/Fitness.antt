-- Which divisors a network can take.
use Rattle.std.specs.Prelude.{ℕ, Bool, ◌&&◌}
use Rattle.expression.specs.Expression.{expression}
use Rattle.network.specs.Held.{reach}
use Rattle.extract_laws.specs.Divisor.{Divisor, own, sound}

-- a divisor that a network of v variables can take: its own node is an expression over them, the smaller literal or part first
unfoldable pub fitting : ℕ → Divisor → Bool
fitting v d = sound d && (expression (own d) && reach v (own d))
