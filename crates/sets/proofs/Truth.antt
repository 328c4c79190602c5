-- Tests as equations, and how two numbers stand. Assumes nothing.
use mathlib.Core.Path.{◌≡◌, refl, sym, ◌∙◌}
use mathlib.Core.Logic.{◌⊎◌, inl, inr}
use mathlib.Core.Bool.{Bool, true, false, ◌&&◌, ◌||◌, true≢false, false≢true}
use Prim.Native.Nat.{ℕ, ◌<◌, ◌≤◌}
use native.Mathlib.Omega.{arith}
use lib.Dec.{eqb, ltb}
use borrow.Author.Tests.{eqb-true, eqb-false, ltb-true, ltb-false}

-- two tests are the same where each follows from the other
pub iff : {a b : Bool} → (a ≡ true → b ≡ true) → (b ≡ true → a ≡ true) → a ≡ b
iff {a = true} {b = b} f g = sym (f refl)
iff {a = false} {b = true} f g = g refl
iff {a = false} {b = false} f g = refl

pub both : (a b : Bool) → (a && b) ≡ true → (a ≡ true) × (b ≡ true)
both true b h = (refl, h)
both false b h = (h, absurd (false≢true h))

pub together : (a b : Bool) → a ≡ true → b ≡ true → (a && b) ≡ true
together true b h k = k
together false b h k = h

pub either : (a b : Bool) → (a || b) ≡ true → (a ≡ true) ⊎ (b ≡ true)
either true b h = inl refl
either false b h = inr h

pub neither : (a b : Bool) → (a || b) ≡ false → (a ≡ false) × (b ≡ false)
neither true b h = (h, absurd (true≢false h))
neither false b h = (refl, h)

pub or_left : (a b : Bool) → a ≡ true → (a || b) ≡ true
or_left true b h = refl
or_left false b h = absurd (false≢true h)

pub or_right : (a b : Bool) → b ≡ true → (a || b) ≡ true
or_right true b h = refl
or_right false b h = h

-- a test has one of its two values
pub decided : (b : Bool) → (b ≡ true) ⊎ (b ≡ false)
decided true = inl refl
decided false = inr refl

pub clash {ℓ} : {P : Type ℓ} {b : Bool} → b ≡ true → b ≡ false → P
clash h k = absurd (true≢false (sym h ∙ k))

pub refuted : {b : Bool} → (b ≡ true → ⊥) → b ≡ false
refuted {b = true} f = absurd (f refl)
refuted {b = false} f = refl

-- how two numbers stand, with what the tests say
pub data Stand (a b : ℕ) : Type 0 where
  below : a < b → ltb a b ≡ true → eqb a b ≡ false → Stand a b
  equal : a ≡ b → ltb a b ≡ false → eqb a b ≡ true → Stand a b
  beyond : b < a → ltb a b ≡ false → eqb a b ≡ false → Stand a b

pub compared : (a b : ℕ) → Stand a b
compared a b = go (decided (ltb a b)) (decided (eqb a b))
  where
    go : (ltb a b ≡ true) ⊎ (ltb a b ≡ false) → (eqb a b ≡ true) ⊎ (eqb a b ≡ false) → Stand a b
    go (inl p) (inl q) = let h : a < b = ltb-true a b p in let e : a ≡ b = eqb-true a b q in absurd (omega arith)
    go (inl p) (inr q) = below (ltb-true a b p) p q
    go (inr p) (inl q) = equal (eqb-true a b q) p q
    go (inr p) (inr q) = let h : b ≤ a = ltb-false a b p in let e : a ≡ b → ⊥ = eqb-false a b q in beyond (omega arith) p q
