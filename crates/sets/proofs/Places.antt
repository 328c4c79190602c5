-- Elements of a list by their places: members, what a store changes, a test over what is left. Assumes nothing.
use Prim.Native.Nat.{ℕ, zero, suc, ◌+◌, ◌<◌, ◌≤◌, suc-le-suc}
use mathlib.Core.Path.{◌≡◌, refl, sym, ap}
use mathlib.Core.Logic.{◌⊎◌, inl, inr}
use mathlib.Core.Bool.{Bool, true, false}
use mathlib.Core.List.Memᴰ
use mathlib.Core.List.Memᴰ.{head as here}
use mathlib.Core.List.Memᴰ.{tail as there}
use mathlib.Core.List.{List, [], ◌∷◌}
use native.Mathlib.Nat.{zero-lt-suc, not-suc-le-zero, le_of_suc-le-suc}
use native.Mathlib.Numerals.{add-one}
use native.Mathlib.Omega.{arith}
use lib.ListN.{length, get_or, take, drop, set, drop_of_length-le}
use lib.Seq.{take-suc, take-length, drop-cons}
use Rattle.sets.specs.Lists.{all, pairwise, total}
use Rattle.sets.proofs.Truth.{together}
use Rattle.sets.proofs.Lists.{◌∈◌, all_in, all-out, ahead, total-append, total-take-le}

module _ {A : Type 0} where
  -- ---- members and places

  pub at_in : (l : List A) (i : ℕ) (d : A) → i < length l → get_or l i d ∈ l
  at_in [] i d h = absurd (not-suc-le-zero h)
  at_in (x ∷ l) zero d h = here refl
  at_in (x ∷ l) (suc i) d h = there (at_in l i d (le_of_suc-le-suc h))

  pub in-at : {x : A} {l : List A} (d : A) → x ∈ l → (i : ℕ) × (i < length l) × (get_or l i d ≡ x)
  in-at d (here {xs = l} e) = (0, zero-lt-suc (length l), sym e)
  in-at d (there m) = let r = in-at d m in (suc r.0, suc-le-suc r.1, r.2)

  -- what is in a list after a store
  pub set-in : {x : A} (l : List A) (i : ℕ) (y : A) → x ∈ set l i y → (x ≡ y) ⊎ (x ∈ l)
  set-in [] i y m = inr m
  set-in (z ∷ l) zero y m = elim (Memᴰ.cases_cons m) [ inl e ↦ inl e | inr t ↦ inr (there t) ]
  set-in (z ∷ l) (suc i) y m = elim (Memᴰ.cases_cons m) [
    | inl e ↦ inr (here e)
    | inr t ↦ elim (set-in l i y t) [ inl e ↦ inl e | inr k ↦ inr (there k) ]
  ]

  -- ---- a test over what is left from a place on

  module _ (l : List A) (i : ℕ) (d : A) (h : i < length l) where
    pub drop-next : drop i l ≡ get_or l i d ∷ drop (i + 1) l
    drop-next = rw (add-one i) (drop-cons l i d h)

    pub all-stop : (p : A → Bool) → p (get_or l i d) ≡ false → all p (drop i l) ≡ false
    all-stop p e = rw (drop-next, e)

    pub all-on : (p : A → Bool) → p (get_or l i d) ≡ true → all p (drop i l) ≡ all p (drop (i + 1) l)
    all-on p e = rw (drop-next, e)

    pub pairwise-stop : (r : A → A → Bool) → all (r (get_or l i d)) (drop (i + 1) l) ≡ false → pairwise r (drop i l) ≡ false
    pairwise-stop r e = rw (drop-next, e)

    pub pairwise-on : (r : A → A → Bool) → all (r (get_or l i d)) (drop (i + 1) l) ≡ true → pairwise r (drop i l) ≡ pairwise r (drop (i + 1) l)
    pairwise-on r e = rw (drop-next, e)

  module _ (l : List A) (i : ℕ) (h : length l ≤ i) where
    pub all_done : (p : A → Bool) → all p (drop i l) ≡ true
    all_done p = rw (drop_of_length-le l h)

    pub pairwise-done : (r : A → A → Bool) → pairwise r (drop i l) ≡ true
    pairwise-done r = rw (drop_of_length-le l h)

  -- ---- a relation of each element and every later one, by places

  module _ (r : A → A → Bool) (d : A) where
    pub pairwise-at : (l : List A) (i j : ℕ) → pairwise r l ≡ true → i < j → j < length l → r (get_or l i d) (get_or l j d) ≡ true
    pairwise-at [] i j h b k = absurd (not-suc-le-zero k)
    pairwise-at (x ∷ l) i zero h b k = absurd (not-suc-le-zero b)
    pairwise-at (x ∷ l) zero (suc j) h b k = all-out (r x) (at_in l j d (le_of_suc-le-suc k)) (ahead r x l h).0
    pairwise-at (x ∷ l) (suc i) (suc j) h b k = pairwise-at l i j (ahead r x l h).1 (le_of_suc-le-suc b) (le_of_suc-le-suc k)

    pub at-pairwise : (l : List A) → ((i j : ℕ) → i < j → j < length l → r (get_or l i d) (get_or l j d) ≡ true) → pairwise r l ≡ true
    at-pairwise [] k = refl
    at-pairwise (x ∷ l) k =
        together (all (r x) l) (pairwise r l) (all_in (r x) l (λ y m. let q = in-at d m in rw (← q.2) (k 0 (suc q.0) (omega arith) (suc-le-suc q.1))))
        (at-pairwise l (λ i j b h. k (suc i) (suc j) (suc-le-suc b) (suc-le-suc h)))

-- one element more in a total
pub total-next : {A : Type 0} (g : A → ℕ) (f : List A) (i : ℕ) (d : A) → i < length f → total g (take (i + 1) f) ≡ total g (take i f) + g (get_or f i d)
total-next g f i d h = rw (add-one i, take-suc f i d h, total-append g (take i f) (get_or f i d ∷ [])) (omega arith)

-- the next element is within the whole
pub total-room : {A : Type 0} (g : A → ℕ) (f : List A) (i : ℕ) (d : A) → i < length f → total g (take i f) + g (get_or f i d) ≤ total g f
total-room g f i d h = omega (arith, total-next g f i d h, total-take-le g f (i + 1) (length f) (omega arith), ap (total g) (take-length f))
