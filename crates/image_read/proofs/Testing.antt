-- The tests of the order: literals below a bound, divisors in turn, cubes that rise. Assumes nothing.
use Prim.Native.Nat.{ℕ, suc, ◌+◌}
use mathlib.Core.Path.{◌≡◌, refl, sym, ap, ap₂, ◌∙◌}
use mathlib.Core.Bool.{true, not, ◌&&◌, and_comm}
use mathlib.Core.List.{List, [], ◌∷◌}
use mathlib.Core.Logic.{inl, inr}
use native.Mathlib.Omega.{arith}
use lib.Dec.{leb, ltb}
use lib.ListN.{length}
use borrow.Author.Tests.{leb-true, leb-false, lt-ltb, le-ltb}
use Rattle.sets.specs.Lists.{is_some, all, pairwise}
use Rattle.sets.specs.Sets.{asc, proper, first_from}
use Rattle.sets.proofs.Truth.{decided, both, together}
use Rattle.sets.proofs.Lists.{all_in, all-out, all_append}
use Rattle.std.specs.List.{zip, range_with_len}
use Rattle.expression.specs.Expression.{is_cube, loose, ordered}
use Rattle.network.specs.{Held.reach, Handed.flat}
use Rattle.image_laws.specs.Reading.{in_the_order, reads_earlier}
use Rattle.image_read.specs.Parts.{tidy}

-- ---- literals below a bound

-- no literal from l on is there where all are below l
pub first_below : (l : ℕ) (c : List ℕ) → not (is_some (first_from l c)) ≡ all (λ x. ltb x l) c
unfolding first_from
first_below l [] = refl
first_below l (x ∷ c) = elim (decided (leb l x)) [
  | inl e ↦ rw (e, le-ltb x l (leb-true l x e))
  | inr e ↦ rw (e, lt-ltb x l (leb-false l x e)) (first_below l c)
]

-- ---- divisors in turn, each with its number

pub earlier-zip : (fs : List (List (List ℕ))) (v : ℕ) → all (λ p. reach p.0 p.1) (zip (range_with_len v (length fs)) fs) ≡ reads_earlier v fs
unfolding reads_earlier
earlier-zip [] v = refl
earlier-zip (f ∷ fs) v = let e : v + 1 ≡ suc v = omega arith in ap (reach v f &&◌) (earlier-zip fs (v + 1) ∙ ap (λ n. reads_earlier n fs) e)

-- ---- an expression in cube order

cubes-are : (f : List (List ℕ)) → all asc f ≡ true → all proper f ≡ true → all is_cube f ≡ true
cubes-are f a p = all_in is_cube f (λ c m. together (asc c) (proper c) (all-out asc m a) (all-out proper m p))

tidy-order : (f : List (List ℕ)) → all asc f ≡ true → all proper f ≡ true → tidy f ≡ in_the_order f
unfolding in_the_order
tidy-order f a p = rw (cubes-are f a p, a) (and_comm (pairwise loose f) (ordered f))

pub all-tidy : (fs : List (List (List ℕ))) → all asc (flat fs) ≡ true → all proper (flat fs) ≡ true → all tidy fs ≡ all in_the_order fs
all-tidy [] a p = refl
all-tidy (f ∷ fs) a p =
    let a' = both (all asc f) (all asc (flat fs)) (sym (all_append asc f (flat fs)) ∙ a) in
    let p' = both (all proper f) (all proper (flat fs)) (sym (all_append proper f (flat fs)) ∙ p) in
    ap₂ ◌&&◌ (tidy-order f a'.0 p'.0) (all-tidy fs a'.1 p'.1)

-- in the one order all literals ascend
pub order-asc : (fs : List (List (List ℕ))) → all in_the_order fs ≡ true → all asc (flat fs) ≡ true
unfolding in_the_order
order-asc [] h = refl
order-asc (f ∷ fs) h =
    let q = both (in_the_order f) (all in_the_order fs) h in
    all_append asc f (flat fs) ∙ together _ _ (both (all asc f) (ordered f && pairwise loose f) q.0).0 (order-asc fs q.1)
