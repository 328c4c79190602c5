-- The limits: what follows where they are kept. Assumes nothing.
use mathlib.Core.Path.{◌≡◌}
use mathlib.Core.{Bool.true}
use native.Mathlib.Omega.{arith}
use borrow.Author.Tests.{lt-ltb}
use Rattle.sets.{proofs.Truth.both}
use Rattle.expression.specs.Answers.{capped}
use Rattle.network.specs.{Net.literal_count, Handed.Shaped, Parts.Limited, declared.Network.Network}
use Rattle.network.specs.Held.{net_of, rules, sized, ruled}
use Rattle.network.proofs.Holding.{sized-measured, rules-iff}

-- what follows from the limits
pub sized-out : (n : Network) → Shaped n → sized n ≡ true → Limited n
sized-out n s h = let t = sized-measured n h in
    record { shape = s; counted = omega (arith, s.slots); narrow = t.outputs.1; variables = t.few; cubes = t.cubes }

-- ---- all rules

pub rules-sized : (n : Network) → Shaped n → rules n ≡ true → Limited n
unfolding rules
rules-sized n s h = sized-out n s (both (sized n) (ruled (net_of n)) h).0

-- what is counted is not past 64 bits
pub rules-literals : (n : Network) → Shaped n → rules n ≡ true → capped (literal_count (net_of n)) ≡ literal_count (net_of n)
rules-literals n s h = let t = (rules-iff n s).0 h in rw (lt-ltb (literal_count (net_of n)) 18446744073709551616 (omega (arith, t.lawful.within.literals)))
