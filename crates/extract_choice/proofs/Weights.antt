-- Weights as differences of numbers, and which of two is picked. Assumes nothing.
use Prim.Native.Nat.{ℕ, zero, suc, ◌+◌, ◌/◌, ◌%◌, ◌-◌, ◌<◌}
use mathlib.Core.Path.{◌≡◌, refl, sym, ap, ◌∙◌}
use mathlib.Core.Logic.{inl, inr}
use mathlib.Core.Bool.{Bool, true, false, not}
use native.Mathlib.Omega.{arith}
use lib.Dec.{ltb, eqb}
use lib.IntN.{ℤ, pos, negsuc, ◌+ℤ◌, ◌-ℤ◌, -ℤ-+ℤ_cancel}
use lib.Signed.{lt_z, le_z, mag}
use borrow.Author.Tests.{lt-ltb, le-ltb, ltb-true, ltb-false, leb-true, leb-false}
use Rattle.sets.proofs.{Truth.decided, Truth.clash, Truth.refuted, Orders.asym}
use Rattle.extract_laws.{specs.Extract.sooner, specs.Run.Weighed, proofs.Choosing.heavier-order}
use Rattle.extract_divisor.specs.{Divisor.divisor_of, Divisor.weighed_of, declared.Step.Step}
use Rattle.extract_rank.specs.Rank.{outweighs, taken}
use Rattle.extract_keys.specs.Keys.{divisor_at, size_at, cost_at}
use Rattle.extract_choice.specs.Parts.{offered, picked, Modest}

-- ---- differences

-- a difference of two numbers below 2 ^ 31 fits
pub difference-small : (a b k : ℕ) → a < k → b < k → mag (pos a -ℤ pos b) < k
difference-small a zero k h g = omega arith
difference-small a (suc b) k h g = elim (decided (ltb a (suc b))) [ inl t ↦ rw t (omega arith) | inr t ↦ rw t (omega arith) ]

-- it is no greater than the first
pub difference-modest : (a b : ℕ) → a < 65536 → Modest (pos a -ℤ pos b)
difference-modest a zero h = lt-ltb (a + 0) 65536 (omega arith)
difference-modest a (suc b) h = elim (decided (ltb a (suc b))) [ inl t ↦ rw t | inr t ↦ rw t (lt-ltb (a - suc b) 65536 (omega arith)) ]

-- and less than what the first is not above
pub difference-less : (a b : ℕ) (z : ℤ) → 0 < b → lt_z z (pos a) ≡ false → lt_z (pos a -ℤ pos b) z ≡ true
difference-less a zero z l h = absurd (omega arith)
difference-less a (suc b) (negsuc c) l h = clash refl h
difference-less a (suc b) (pos c) l h = elim (decided (ltb a (suc b))) [
  | inl t ↦ rw t
  | inr t ↦ rw t (lt-ltb (a - suc b) c (omega (arith, ltb-false c a h, ltb-false a (suc b) t)))
]

-- where it is above 0, so is the first
pub above-gain : (a b : ℕ) → lt_z (pos 0) (pos a -ℤ pos b) ≡ true → 0 < a
above-gain (suc a) b h = omega arith
above-gain zero zero h = ltb-true 0 0 h
above-gain zero (suc b) h = clash (lt-ltb 0 (suc b) (omega arith)) (refuted (λ t. clash h (rw t)))

-- the second taken away from the same leaves the same
pub difference-one : (a b c : ℕ) → pos a -ℤ pos c ≡ pos b -ℤ pos c → a ≡ b
difference-one a b c e =
    let q : pos a ≡ pos b = sym (-ℤ-+ℤ_cancel (pos a) (pos c)) ∙ ap (◌+ℤ pos c) e ∙ -ℤ-+ℤ_cancel (pos b) (pos c) in
    cc

-- above 0, or at most 0
pub above_most : (z : ℤ) (b : Bool) → le_z z (pos 0) ≡ b → lt_z (pos 0) z ≡ not b
above_most (pos n) true h = le-ltb 0 n (leb-true n 0 h)
above_most (pos n) false h = lt-ltb 0 n (leb-false n 0 h)
above_most (negsuc n) true h = refl
above_most (negsuc n) false h = clash refl h

-- a weight above 0 is a number
pub above-number : (z : ℤ) → lt_z (pos 0) z ≡ true → Modest z → (n : ℕ) × (z ≡ pos n) × (n < 65536)
above-number (pos n) h m = (n, refl, ltb-true n 65536 m)
above-number (negsuc n) h m = clash h refl

-- ---- costs

-- a key's divisor has a literal at least, and few
size_few : (x : ℕ) → (0 < size_at x) × (size_at x < 3)
unfolding size_at
size_few x = elim (decided (eqb (x / 256) (x % 256))) [ inl t ↦ rw t (omega arith, omega arith) | inr t ↦ rw t (omega arith, omega arith) ]

pub cost-few : (k : ℕ) → (0 < cost_at k) × (cost_at k < 65536)
unfolding cost_at
cost-few k =
    let a = size_few (k / 65536) in
    let b = size_few (k % 65536) in
    elim (decided (eqb (k / 65536) (k % 65536))) [ inl t ↦ rw t (omega arith, omega arith) | inr t ↦ rw t (omega arith, omega arith) ]

-- ---- what is picked

-- nothing that weighs less
pub picked-less : (h o : Weighed) → lt_z o.weight h.weight ≡ true → picked h o ≡ h
unfolding picked outweighs
picked-less h o l =
    let g = asym (λ u v. lt_z v u) heavier-order h.weight o.weight l in
    elim (decided (lt_z (pos 0) o.weight)) [ inl t ↦ rw (t, g, l) | inr t ↦ rw t ]

-- what is picked is no more than a gain can be, if neither is
pub picked-modest : (h o : Weighed) → Modest h.weight → Modest o.weight → Modest (picked h o).weight
unfolding picked
picked-modest h o l m =
    elim (decided (outweighs o.weight h.weight (sooner o.divisor h.divisor))) [ inl e ↦ rw e m | inr e ↦ rw e l ]

-- a step that is taken is picked
pub picked-taken : (s t : Step) → weighed_of (taken s t) ≡ picked (weighed_of s) (weighed_of t)
unfolding picked taken
picked-taken s t =
    let b = outweighs t.weight s.weight (sooner (divisor_of t.divisor) (divisor_of s.divisor)) in
    elim (decided b) [ inl e ↦ rw e | inr e ↦ rw e ]

-- a step says what is offered
pub offered-step : (k x : ℕ) (s : Step) → divisor_of s.divisor ≡ divisor_at k → s.weight ≡ pos x -ℤ pos (cost_at k) → s.uses ≡ 0
    → weighed_of s ≡ offered k x
offered-step k x s d w u = λ i. record { divisor = d i; weight = w i; uses = u i }
