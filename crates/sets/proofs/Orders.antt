-- Strict total orders as tests: of numbers, of what is compared part by part, of cubes; two lists in order with the same elements are equal. Assumes nothing.
use mathlib.Core.Path.{◌≡◌, refl, sym, ap, ap₂, ◌∙◌, subst}
use mathlib.Core.Logic.{◌⊎◌, inl, inr}
use mathlib.Core.Bool.{Bool, true, false, not, ◌&&◌, ◌||◌}
use mathlib.Core.List.Memᴰ
use mathlib.Core.List.Memᴰ.{head as here}
use mathlib.Core.List.Memᴰ.{tail as there}
use mathlib.Core.List.{List, [], ◌∷◌}
use Prim.Native.Nat.{ℕ}
use native.Mathlib.Omega.{arith}
use lib.Dec.{ltb}
use borrow.Author.Tests.{ltb-true, ltb-false, lt-ltb, le-ltb, not-true}
use Rattle.sets.specs.{Lists.pairwise, Sets.lex, Sets.before}
pub use Rattle.sets.specs.Meaning.{Strict}
use Rattle.sets.proofs.Truth.{both, decided, clash}
use Rattle.sets.proofs.Lists.{◌∈◌, all-out, ahead}

-- ---- strict total orders as tests

module _ {A : Type 0} (r : A → A → Bool) (o : Strict r) where
  pub asym : (x y : A) → r x y ≡ true → r y x ≡ false
  asym x y h = elim (decided (r y x)) [ inl k ↦ clash (o.trans x y x h k) (o.irrefl x) | inr k ↦ k ]

  -- not after, twice
  pub not_after : (x y z : A) → r x y ≡ false → r y z ≡ false → r x z ≡ false
  not_after x y z h k = elim (decided (r x z)) [
    | inl p ↦ elim (decided (r y x)) [ inl q ↦ clash (o.trans y x z q p) k | inr q ↦ clash p (ap (λ w. r w z) (o.linear x y h q) ∙ k) ]
    | inr p ↦ p
  ]

  pub lex-true : (x y : A) (b : Bool) → lex r x y b ≡ true → (r x y ≡ true) ⊎ ((x ≡ y) × (b ≡ true))
  lex-true x y b h = elim (decided (r x y)) [
    | inl p ↦ inl p
    | inr p ↦ let q = both (not (r y x)) b (subst (λ w. (w || (not (r y x) && b)) ≡ true) p h) in inr (o.linear x y p (not-true _ q.0), q.1)
  ]

  pub lex-self : (x : A) (b : Bool) → lex r x x b ≡ b
  lex-self x b = rw (o.irrefl x)

  pub lex-trans : (x y z : A) (b c d : Bool) → (b ≡ true → c ≡ true → d ≡ true) → lex r x y b ≡ true → lex r y z c ≡ true → lex r x z d ≡ true
  lex-trans x y z b c d k h g = go (lex-true x y b h) (lex-true y z c g)
    where
      go : (r x y ≡ true) ⊎ ((x ≡ y) × (b ≡ true)) → (r y z ≡ true) ⊎ ((y ≡ z) × (c ≡ true)) → lex r x z d ≡ true
      go (inl p) (inl q) = rw (o.trans x y z p q)
      go (inl p) (inr (e, q)) = rw (← e, p)
      go (inr (e, p)) (inl q) = rw (e, q)
      go (inr (e, p)) (inr (e', q)) = rw (e ∙ e', lex-self z d) (k p q)

  pub lex-linear : (x y : A) (b c : Bool) → lex r x y b ≡ false → lex r y x c ≡ false → (x ≡ y) × (b ≡ false) × (c ≡ false)
  lex-linear x y b c h k = go (r x y) (r y x) refl refl h k
    where
      go : (p q : Bool) → r x y ≡ p → r y x ≡ q → (p || (not q && b)) ≡ false → (q || (not p && c)) ≡ false → (x ≡ y) × (b ≡ false) × (c ≡ false)
      go true q e e' h k = clash refl h
      go false true e e' h k = clash refl k
      go false false e e' h k = (o.linear x y e e', h, k)

-- ---- numbers, cubes

pub ltb-order : Strict ltb
ltb-order = record {
  irrefl = λ x. le-ltb x x (omega arith);
  trans = λ x y z h k. omega (arith, ltb-true, lt-ltb);
  linear = λ x y h k. omega (arith, ltb-false);
}

pub before-order : Strict before
unfolding before
before-order = record { irrefl = irr; trans = tr; linear = li }
  where
    irr : (a : List ℕ) → before a a ≡ false
    irr [] = refl
    irr (x ∷ a) = lex-self ltb ltb-order x (before a a) ∙ irr a

    tr : (a b c : List ℕ) → before a b ≡ true → before b c ≡ true → before a c ≡ true
    tr a [] c h k = clash h refl
    tr a (y ∷ b) [] h k = clash k refl
    tr [] (y ∷ b) (z ∷ c) h k = refl
    tr (x ∷ a) (y ∷ b) (z ∷ c) h k = lex-trans ltb ltb-order x y z (before a b) (before b c) (before a c) (tr a b c) h k

    li : (a b : List ℕ) → before a b ≡ false → before b a ≡ false → a ≡ b
    li [] [] h k = refl
    li [] (y ∷ b) h k = clash refl h
    li (x ∷ a) [] h k = clash refl k
    li (x ∷ a) (y ∷ b) h k = let q = lex-linear ltb ltb-order x y (before a b) (before b a) h k in ap₂ ◌∷◌ q.0 (li a b q.1 q.2)

-- ---- two lists in order with the same elements are equal

module _ {A : Type 0} (r : A → A → Bool) (o : Strict r) where
  pub ext-in : (a b : List A) → pairwise r a ≡ true → pairwise r b ≡ true → ((z : A) → z ∈ a → z ∈ b) → ((z : A) → z ∈ b → z ∈ a) → a ≡ b
  ext-in [] [] h k i o' = refl
  ext-in [] (y ∷ b) h k i o' = absurd (Memᴰ.not-nil (o' y (here refl)))
  ext-in (x ∷ a) [] h k i o' = absurd (Memᴰ.not-nil (i x (here refl)))
  ext-in (x ∷ a) (y ∷ b) h k i o' = ap₂ ◌∷◌ e (ext-in a b (ahead r x a h).1 (ahead r y b k).1 there-a there-b)
    where
      low : (z : A) → z ∈ a → r x z ≡ true
      low z m = all-out (r x) m (ahead r x a h).0

      low' : (z : A) → z ∈ b → r y z ≡ true
      low' z m = all-out (r y) m (ahead r y b k).0

      e : x ≡ y
      e = elim (Memᴰ.cases_cons (i x (here refl)))
          [ inl p ↦ p | inr p ↦ elim (Memᴰ.cases_cons (o' y (here refl))) [ inl q ↦ sym q | inr q ↦ clash (low y q) (asym r o y x (low' x p)) ] ]

      there-a : (z : A) → z ∈ a → z ∈ b
      there-a z m = elim (Memᴰ.cases_cons (i z (there m))) [ inl p ↦ clash (low z m) (ap (r x) (p ∙ sym e) ∙ o.irrefl x) | inr p ↦ p ]

      there-b : (z : A) → z ∈ b → z ∈ a
      there-b z m = elim (Memᴰ.cases_cons (o' z (there m))) [ inl p ↦ clash (low' z m) (ap (r y) (p ∙ e) ∙ o.irrefl y) | inr p ↦ p ]
