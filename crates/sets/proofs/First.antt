-- The first element of an ascending list that is not below a number: it is known from the members, and they from it. Assumes nothing.
use mathlib.Core.Path.{◌≡◌, refl, sym, ◌∙◌, ap}
use mathlib.Core.Bool.{true, false, cond, false≢true}
use mathlib.Core.List.{List, [], ◌∷◌}
use mathlib.Core.Logic.{inl, inr, ⊎_elim}
use mathlib.Core.Option.{Option, none, some}
use Prim.Native.Nat.{ℕ, ◌+◌, ◌<◌, ◌≤◌}
use native.Mathlib.Omega.{arith}
use lib.Dec.{eqb, leb}
use borrow.Author.Tests.{eqb-true, leb-true, leb-false, ne_eqb, le-leb, lt-leb}
use Rattle.sets.specs.Sets.{mem, asc, first_from}
use Rattle.sets.proofs.Truth.{clash, either, or_left, or_right, decided, refuted, below, equal, beyond, compared}
use Rattle.sets.proofs.Sets.{mem-head, head-le, tail-asc}

pub some-not-none : {A : Type 0} {x : ℕ} (o : Option ℕ) → o ≡ some x → o ≡ none → A
some-not-none o p q = let z : ◌≡◌ {A = ℕ} 0 1 = cc in absurd (omega arith)

tail-not : (k x : ℕ) (xs : List ℕ) → mem k (x ∷ xs) ≡ false → mem k xs ≡ false
unfolding mem
tail-not k x xs h = refuted (λ m. clash (or_right (eqb k x) (mem k xs) m) h)

tail-in : (k x : ℕ) (xs : List ℕ) → mem k (x ∷ xs) ≡ true → x < k → mem k xs ≡ true
unfolding mem
tail-in k x xs m h = ⊎_elim (λ e. let e' : k ≡ x = eqb-true k x e in absurd (omega arith)) (λ t. t) (either (eqb k x) (mem k xs) m)

-- ---- from the members

pub first-none : (l : ℕ) (xs : List ℕ) → ((k : ℕ) → l ≤ k → mem k xs ≡ false) → first_from l xs ≡ none
unfolding first_from
first-none l [] h = refl
first-none l (x ∷ xs) h = elim (decided (leb l x)) [
  | inl t ↦ clash (mem-head x xs) (h x (leb-true l x t))
  | inr t ↦ rw t (first-none l xs (λ k le. tail-not k x xs (h k le)))
]

pub first_some : (l : ℕ) (xs : List ℕ) (x : ℕ) → asc xs ≡ true → mem x xs ≡ true → l ≤ x
    → ((k : ℕ) → l ≤ k → k < x → mem k xs ≡ false) → first_from l xs ≡ some x
unfolding first_from mem
first_some l [] x a m le h = absurd (false≢true m)
first_some l (y ∷ ys) x a m le h = elim (decided (leb l y)) [
  | inl t ↦ elim (compared y x) [
    | below b p q ↦ clash (mem-head y ys) (h y (leb-true l y t) b)
    | equal e p q ↦ rw (t, e)
    | beyond b p q ↦ absurd (omega (arith, head-le y ys x a m))
  ]
  | inr t ↦ rw t (first_some l ys x (tail-asc y ys a) (tail-in x y ys m (omega (arith, leb-false l y t))) le (λ k p q. tail-not k y ys (h k p q)))
]

-- ---- to the members

pub none_first : (l : ℕ) (xs : List ℕ) → first_from l xs ≡ none → (k : ℕ) → l ≤ k → mem k xs ≡ false
unfolding first_from mem
none_first l [] h k le = refl
none_first l (x ∷ xs) h k le = elim (decided (leb l x)) [
  | inl t ↦ some-not-none {x = x} (cond (leb l x) (some x) (first_from l xs)) (rw t) h
  | inr t ↦ rw (ne_eqb k x (λ (e : k ≡ x). omega (arith, leb-false l x t))) (none_first l xs (rw t at h) k le)
]

pub record IsFirst (l : ℕ) (xs : List ℕ) (x : ℕ) : Type 0 where
  pub is_in : mem x xs ≡ true
  pub not_below : l ≤ x
  pub least : (k : ℕ) → l ≤ k → k < x → mem k xs ≡ false

pub some_first : (l : ℕ) (xs : List ℕ) (x : ℕ) → asc xs ≡ true → first_from l xs ≡ some x → IsFirst l xs x
unfolding first_from mem
some_first l [] x a h = some-not-none {x = x} none h refl
some_first l (y ∷ ys) x a h = elim (decided (leb l y)) [
  | inl t ↦
      let s : some y ≡ some x = rw t at h in
      let e : y ≡ x = cc in
      record {
        is_in = ap (λ (z : ℕ). mem z (y ∷ ys)) (sym e) ∙ mem-head y ys;
        not_below = omega (arith, leb-true l y t);
        least = λ k p q. refuted (λ m. omega (arith, head-le y ys k a m));
      }
  | inr t ↦
      let r = some_first l ys x (tail-asc y ys a) (rw t at h) in
      record {
        is_in = or_right (eqb x y) (mem x ys) r.is_in;
        not_below = r.not_below;
        least = λ k p q. rw (ne_eqb k y (λ (e : k ≡ y). omega (arith, leb-false l y t))) (r.least k p q);
      }
]

-- a first element that is missed is not the next
pub first_next : (l : ℕ) (xs : List ℕ) → mem l xs ≡ false → first_from l xs ≡ first_from (l + 1) xs
unfolding first_from mem
first_next l [] h = refl
first_next l (x ∷ xs) h = elim (compared l x) [
  | below b p q ↦ rw (le-leb l x (omega arith), le-leb (l + 1) x (omega arith))
  | equal b p q ↦ clash (or_left (eqb l x) (mem l xs) q) h
  | beyond b p q ↦ rw (lt-leb l x (omega arith), lt-leb (l + 1) x (omega arith)) (first_next l xs (tail-not l x xs h))
]

pub first-here : (l : ℕ) (xs : List ℕ) → asc xs ≡ true → mem l xs ≡ true → some l ≡ first_from l xs
first-here l xs a m = sym (first_some l xs l a m (omega arith) (λ k p q. absurd (omega arith)))

-- elements that are missed do not count
pub first_past : (l h : ℕ) (xs : List ℕ) → l ≤ h → ((k : ℕ) → l ≤ k → k < h → mem k xs ≡ false) → first_from l xs ≡ first_from h xs
unfolding first_from
first_past l h [] b q = refl
first_past l h (x ∷ xs) b q = elim (decided (leb l x)) [
  | inl t ↦ elim (decided (leb h x)) [ inl u ↦ rw (t, u) | inr u ↦ clash (mem-head x xs) (q x (leb-true l x t) (leb-false h x u)) ]
  | inr t ↦ rw (t, lt-leb h x (omega (arith, leb-false l x t))) (first_past l h xs b (λ k g u. tail-not k x xs (q k g u)))
]
