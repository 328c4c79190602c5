-- The literal that is chosen is in most cubes and the smallest of those, and how it is found one literal at a time. Assumes nothing.
use Prim.Native.Nat.{ℕ, zero, suc, ◌+◌, ◌-◌, ◌*◌, ◌<◌, ◌≤◌}
use mathlib.Core.Path.{◌≡◌, refl, ◌∙◌, ap, ap₂, subst}
use mathlib.Core.Bool.{Bool, true, false, cond}
use mathlib.Core.{Logic.inl, Logic.inr}
use native.Mathlib.Omega.{arith}
use native.Mathlib.Nat.{eq-or-lt_of_le}
use lib.Dec.{ltb}
use borrow.Author.Tests.{lt-ltb, le-ltb, ltb-true, ltb-false}
use Rattle.sets.{proofs.Truth.decided}
use Rattle.cube.specs.Cube.{width}
use Rattle.factor.specs.Form.{used_in, most, most_used}
use Rattle.expression.specs.Expression.{Cubes}

-- ---- one literal at a time

most-suc : (k : ℕ) (f : Cubes) (l b : ℕ) → most (suc k) f l b ≡ most k f (suc l) (cond (ltb (used_in b f) (used_in l f)) l b)
unfolding most
most-suc k f l b = refl

module _ (f : Cubes) (n l b : ℕ) (inside : l < n) where
  one : (t : Bool) → ltb (used_in b f) (used_in l f) ≡ t → most (n - l) f l b ≡ most (n - (l + 1)) f (l + 1) (cond t l b)
  one t h =
      let less : n - l ≡ suc (n - (l + 1)) = omega arith in
      let next : suc l ≡ l + 1 = omega arith in
      ap (λ k. most k f l b) less ∙ most-suc (n - (l + 1)) f l b ∙ ap₂ (λ m u. most (n - (l + 1)) f m (cond u l b)) next h

  pub most-taken : used_in b f < used_in l f → most (n - l) f l b ≡ most (n - (l + 1)) f (l + 1) l
  most-taken h = one true (lt-ltb (used_in b f) (used_in l f) h)

  pub most-left : used_in l f ≤ used_in b f → most (n - l) f l b ≡ most (n - (l + 1)) f (l + 1) b
  most-left h = one false (le-ltb (used_in b f) (used_in l f) h)

pub most-end : (f : Cubes) (n l b : ℕ) → n ≤ l → most (n - l) f l b ≡ b
unfolding most
most-end f n l b h = let e : n - l ≡ 0 = omega arith in rw e

-- ---- in most cubes, and the smallest such

-- b is in most cubes among the literals below n, and the smallest such
record Best (f : Cubes) (n b : ℕ) : Type 0 where
  inside : b < n
  most : (m : ℕ) → m < n → used_in m f ≤ used_in b f
  first : (m : ℕ) → m < b → used_in m f < used_in b f

best-one : (f : Cubes) → Best f 1 0
best-one f = record { inside = omega arith; most = λ m h. let e : m ≡ 0 = omega arith in rw e (omega arith); first = λ m h. absurd (omega arith) }

best-next : (f : Cubes) (l b : ℕ) → Best f l b → Best f (suc l) (cond (ltb (used_in b f) (used_in l f)) l b)
best-next f l b h = elim (decided (ltb (used_in b f) (used_in l f))) [
  | inl t ↦
      let s : used_in b f < used_in l f = ltb-true _ _ t in
      rw t (record { inside = omega arith; most = below (used_in l f) (omega arith) (omega arith); first = λ m i. omega (arith, h.most m i) })
  | inr t ↦
      let s : used_in l f ≤ used_in b f = ltb-false _ _ t in
      rw t (record { inside = omega (arith, h.inside); most = below (used_in b f) s (omega arith); first = h.first })
]
  where
    below : (u : ℕ) → used_in l f ≤ u → used_in b f ≤ u → (m : ℕ) → m < suc l → used_in m f ≤ u
    below u p q m i = elim (eq-or-lt_of_le i) [
      | inl e ↦ let r : m ≡ l = omega arith in rw r p
      | inr k ↦ omega (arith, h.most m (omega arith))
    ]

best-most : (k : ℕ) (f : Cubes) (l b : ℕ) → Best f l b → Best f (l + k) (most k f l b)
unfolding most
best-most zero f l b h = let e : l + 0 ≡ l = omega arith in rw e h
best-most (suc k) f l b h =
    let e : suc l + k ≡ l + suc k = omega arith in
    subst (λ n. Best f n (most (suc k) f l b)) e (best-most k f (suc l) _ (best-next f l b h))

best-used : (f : Cubes) → Best f (2 * width) (most_used f)
best-used f = best-most (2 * width - 1) f 1 0 (best-one f)

pub most_used-inside : (f : Cubes) → most_used f < 2 * width
most_used-inside f = (best-used f).inside

pub most_used-most : (f : Cubes) (l : ℕ) → l < 2 * width → used_in l f ≤ used_in (most_used f) f
most_used-most f l h = (best-used f).most l h

pub most_used-first : (f : Cubes) (l : ℕ) → l < most_used f → used_in l f < used_in (most_used f) f
most_used-first f l h = (best-used f).first l h
