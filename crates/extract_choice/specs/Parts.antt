-- Words for the contracts of the private functions: what the entries of a table offer, and uses.
use Rattle.std.specs.Prelude.{ℕ, zero, suc, List, get_or, ℤ, pos, ◌-ℤ◌}
use mathlib.Core.{Path.◌≡◌, Bool.true, Bool.cond}
use Rattle.std.specs.Int.Signed.{lt_z}
use Rattle.sets.specs.Lists.{total}
use Rattle.extract_laws.specs.Divisor.{Divisor, pair, sum, uses}
use Rattle.extract_laws.specs.{Extract.sooner, Run.Weighed}
use Rattle.extract_divisor.specs.Divisor.{weighed_of, no_step}
use Rattle.extract_rank.specs.Rank.{outweighs}
use Rattle.extract_gains.specs.Gains.{key_at}
use Rattle.extract_keys.specs.Keys.{divisor_at, cost_at}

-- ---- what a table offers

-- a key with so much gain: its divisor, and what that weighs
abbrev pub offered : ℕ → ℕ → Weighed
offered k x = record { divisor = divisor_at k; weight = pos x -ℤ pos (cost_at k); uses = 0 }

-- the better of what is held and what is offered, which is taken only where its weight is above 0
unfoldable pub picked : Weighed → Weighed → Weighed
picked h o = cond (outweighs o.weight h.weight (sooner o.divisor h.divisor)) o h

-- the best of the first e entries
unfoldable pub best_below : List ℕ → List ℕ → ℕ → Weighed
best_below t g zero = weighed_of no_step
best_below t g (suc e) = picked (best_below t g e) (offered (key_at t e) (get_or g e 0))

-- no more than a gain can be
abbrev pub Modest : ℤ → Type 0
Modest w = lt_z w (pos 65536) ≡ true

-- ---- uses

-- the uses of a pair with this weight, or of a sum in these nodes
abbrev pub Counted : List (List (List ℕ)) → Divisor → ℤ → ℕ → Type 0
Counted fs (pair p q) w u = pos u -ℤ pos 2 ≡ w
Counted fs (sum a b) w u = u ≡ total (uses (sum a b)) fs
