-- The three answers of a comparison: from the cube order, and what each says of it. Assumes nothing.
use mathlib.Core.Path.{◌≡◌, refl, sym, ◌∙◌, ap₂, subst}
use mathlib.Core.Bool.{Bool, true, false, cond}
use mathlib.Core.List.{List}
use Prim.Native.Nat.{ℕ}
use native.Mathlib.Omega.{arith}
use Rattle.sets.specs.Sets.{before}
use Rattle.sets.proofs.Ordering.{before-irrefl, before-asym, before-linear}
use Rattle.std.specs.declared.cmp.Ordering.{Ordering}
use Rattle.std.specs.declared.cmp.Ordering.TheVariants.{Less, Equal, Greater}
use Rattle.cube.specs.{Cube.order_of}

pub is-before : (a b : List ℕ) → before a b ≡ true → Less ≡ order_of a b
unfolding order_of
is-before a b h = rw h

pub is_same : (a b : List ℕ) → a ≡ b → Equal ≡ order_of a b
unfolding order_of
is_same a b e = rw (e, before-irrefl b)

pub is-after : (a b : List ℕ) → before b a ≡ true → Greater ≡ order_of a b
unfolding order_of
is-after a b h = rw (before-asym b a h, h)

-- what each answer says

before-not-same : Less ≡ Equal → ⊥
before-not-same e = let z : ◌≡◌ {A = ℕ} 0 1 = cc in omega arith

before-not-after : Less ≡ Greater → ⊥
before-not-after e = let z : ◌≡◌ {A = ℕ} 0 1 = cc in omega arith

after-not-same : Greater ≡ Equal → ⊥
after-not-same e = let z : ◌≡◌ {A = ℕ} 0 1 = cc in omega arith

pub record Told (a b : List ℕ) (o : Ordering) : Type 0 where
  pub first : o ≡ Less → before a b ≡ true
  pub last : o ≡ Greater → before b a ≡ true
  pub alike : o ≡ Equal → a ≡ b

pub order-told : (a b : List ℕ) → Told a b (order_of a b)
unfolding order_of
order-told a b = go (before a b) (before b a) refl refl
  where
    go : (p q : Bool) → before a b ≡ p → before b a ≡ q → Told a b (cond p Less (cond q Greater Equal))
    go true q e f = record { first = λ h. e; last = λ h. absurd (before-not-after h); alike = λ h. absurd (before-not-same h) }
    go false true e f = record { first = λ h. absurd (before-not-after (cc)); last = λ h. f; alike = λ h. absurd (after-not-same h) }
    go false false e f = record { first = λ h. absurd (before-not-same (cc)); last = λ h. absurd (after-not-same (cc)); alike = λ h. before-linear a b e f }

-- the same of an answer that was given, and of cubes known by another name
pub told_of_lem : (o : Ordering) (a b c d : List ℕ) → o ≡ order_of a b → a ≡ c → b ≡ d → Told c d o
told_of_lem o a b c d e p q = subst (λ (x : Ordering). Told c d x) (ap₂ order_of (sym p) (sym q) ∙ sym e) (order-told c d)
