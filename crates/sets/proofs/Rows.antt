-- Lists by their parts and places: numbers in a row, equal elements in a row, one list stored after another, what an element becomes. Assumes nothing.
use Prim.Native.Nat.{ℕ, zero, suc, ◌+◌, ◌-◌, ◌<◌}
use mathlib.Core.Path.{◌≡◌, refl, sym, ap, ◌∙◌}
use mathlib.Core.Bool.{false}
use mathlib.Core.List.{List, [], ◌∷◌, ◌++◌, map, map-append}
use native.Mathlib.Nat.{zero-add}
use native.Mathlib.Numerals.{add-one}
use native.Mathlib.Omega.{arith}
use lib.ListN.{length, get_or, take, drop, set, replicate}
use lib.Seq.{sets, take-nil, take-suc, take-suc-set}
use Rattle.sets.specs.Lists.{is_nil, total, from}
use Rattle.sets.proofs.{Truth.clash, Lists.total-append}

module _ {A : Type 0} where
  -- ---- empty lists

  pub nil-of : (l : List A) → length l ≡ 0 → l ≡ []
  nil-of [] h = refl
  nil-of (x ∷ l) h = absurd (omega arith)

  pub nil-some : (l : List A) → (length l ≡ 0 → ⊥) → is_nil l ≡ false
  nil-some [] h = absurd (h refl)
  nil-some (x ∷ l) h = refl

  pub some-nil : (l : List A) → is_nil l ≡ false → 0 < length l
  some-nil [] h = clash refl h
  some-nil (x ∷ l) h = omega arith

  -- ---- parts

  pub drop-take : (n m : ℕ) (l : List A) → drop n (take (n + m) l) ≡ take m (drop n l)
  drop-take zero m l = rw (zero-add m)
  drop-take (suc n) m [] = rw (take-nil, take-nil)
  drop-take (suc n) m (x ∷ l) = let e : suc n + m ≡ suc (n + m) = omega arith in rw e (drop-take n m l)

  pub take_next : (l : List A) (i : ℕ) (d : A) → i < length l → take (i + 1) l ≡ take i l ++ (get_or l i d ∷ [])
  take_next l i d h = rw (add-one i) (take-suc l i d h)

  pub take-store : (l : List A) (i : ℕ) (x : A) → i < length l → take (i + 1) (set l i x) ≡ take i l ++ (x ∷ [])
  take-store l i x h = rw (add-one i) (take-suc-set l i x h)

  -- ---- equal elements in a row

  pub replicate_next : (n : ℕ) (x : A) → replicate n x ++ (x ∷ []) ≡ replicate (n + 1) x
  replicate_next zero x = refl
  replicate_next (suc n) x = let e : suc n + 1 ≡ suc (n + 1) = omega arith in rw e (ap (x ∷◌) (replicate_next n x))

  pub drop-replicate : (k n : ℕ) (x : A) → drop k (replicate n x) ≡ replicate (n - k) x
  drop-replicate zero n x = let e : n ≡ n - 0 = omega arith in ap (λ m. replicate m x) e
  drop-replicate (suc k) zero x = let e : 0 ≡ 0 - suc k = omega arith in ap (λ m. replicate m x) e
  drop-replicate (suc k) (suc n) x = let e : n - k ≡ suc n - suc k = omega arith in drop-replicate k n x ∙ ap (λ m. replicate m x) e

  -- ---- one list stored after another

  pub sets-append : (l : List A) (i : ℕ) (a b : List A) → sets l i (a ++ b) ≡ sets (sets l i a) (i + length a) b
  sets-append l i [] b = let e : i ≡ i + 0 = omega arith in ap (λ n. sets l n b) e
  sets-append l i (x ∷ a) b =
      let e : suc i + length a ≡ i + suc (length a) = omega arith in
      sets-append (set l i x) (suc i) a b ∙ ap (λ n. sets (sets (set l i x) (suc i) a) n b) e

pub get_d_map : {A B : Type 0} (f : A → B) (l : List A) (i : ℕ) (d : B) (e : A) → i < length l → get_or (map f l) i d ≡ f (get_or l i e)
get_d_map f [] i d e h = absurd (omega arith)
get_d_map f (x ∷ l) zero d e h = refl
get_d_map f (x ∷ l) (suc i) d e h = get_d_map f l i d e (omega arith)

-- ---- numbers in a row

pub from-length : (k m : ℕ) → length (from k m) ≡ m
unfolding from
from-length k zero = refl
from-length k (suc m) = ap suc (from-length (suc k) m)

pub from-snoc : (k m : ℕ) → from k (suc m) ≡ from k m ++ ((k + m) ∷ [])
unfolding from
from-snoc k zero = let e : k + 0 ≡ k = omega arith in rw e
from-snoc k (suc m) = let e : k + suc m ≡ suc k + m = omega arith in rw e (ap (k ∷◌) (from-snoc (suc k) m))

pub from_next : (m : ℕ) → from 0 (m + 1) ≡ from 0 m ++ (m ∷ [])
from_next m = let e : 0 + m ≡ m = omega arith in ap (from 0) (add-one m) ∙ from-snoc 0 m ∙ ap (λ (k : ℕ). from 0 m ++ (k ∷ [])) e

pub map-from : {A : Type 0} (f : ℕ → A) (m : ℕ) → map f (from 0 (m + 1)) ≡ map f (from 0 m) ++ (f m ∷ [])
map-from f m = ap (map f) (from_next m) ∙ map-append f (from 0 m) (m ∷ [])

pub total-from : (g : ℕ → ℕ) (m : ℕ) → total g (from 0 (m + 1)) ≡ total g (from 0 m) + g m
total-from g m = ap (total g) (from_next m) ∙ total-append g (from 0 m) (m ∷ []) ∙ omega arith

pub get_d-from : {A : Type 0} (f : ℕ → A) (d : A) (k m j : ℕ) → j < m → get_or (map f (from k m)) j d ≡ f (k + j)
unfolding from
get_d-from f d k zero j h = absurd (omega arith)
get_d-from f d k (suc m) zero h = let e : k + 0 ≡ k = omega arith in ap f (sym e)
get_d-from f d k (suc m) (suc j) h = let e : suc k + j ≡ k + suc j = omega arith in get_d-from f d (suc k) m j (omega arith) ∙ ap f e
