-- Membership of a cube in an expression, as a test. Assumes nothing.
use Prim.Native.Nat.{ℕ}
use mathlib.Core.List.Memᴰ
use mathlib.Core.{Path.◌≡◌, Bool.true, List.List}
use Rattle.sets.{specs.Sets.same, proofs.Sets.same-eq, proofs.Sets.same_self}
use Rattle.sets.proofs.Lists.{◌∈◌, any-in, any_out}
use Rattle.expression.specs.Expression.{has}

pub has_in : {c : List ℕ} {f : List (List ℕ)} → c ∈ f → has c f ≡ true
unfolding has
has_in {c} m = any-in (same c) m (same_self c)

pub has-out : (c : List ℕ) (f : List (List ℕ)) → has c f ≡ true → c ∈ f
unfolding has
has-out c f h = let r = any_out (same c) f h in Memᴰ.cast (same-eq c r.0 r.2) r.1
