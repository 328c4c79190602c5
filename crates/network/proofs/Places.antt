-- An element's place in a list, and lists with no number twice: one that is no shorter than a list that holds it all has all of that. Assumes nothing.
use Prim.Native.Nat.{ℕ, suc, ◌<◌, ◌≤◌}
use mathlib.Core.Path.{◌≡◌, refl, sym, ap, subst}
use mathlib.Core.Logic.{inl, inr}
use mathlib.Core.Bool.{true, false, not}
use mathlib.Core.List.Memᴰ
use mathlib.Core.List.Memᴰ.{head as here}
use mathlib.Core.List.Memᴰ.{tail as there}
use mathlib.Core.List.{List, [], ◌∷◌, ◌++◌}
use native.Mathlib.Omega.{arith}
use lib.Dec.{eqb}
use lib.ListN.{length}
use borrow.Author.Tests.{eqb-false, eq-eqb, ne_eqb, not-true}
use Rattle.sets.{specs.Lists.keep, specs.Lists.pairwise, specs.Sets.mem, proofs.Sets.mem-of, proofs.Sets.of_mem}
use Rattle.sets.proofs.Truth.{neither, decided, clash}
pub use Rattle.sets.proofs.Lists.{all_append}
use Rattle.sets.proofs.Lists.{◌∈◌, all_in, all-out, keep-in, keep_all, keep-fewer, ahead}
use Rattle.network.specs.Meaning.{differ}

module _ {A : Type 0} where
  -- what stands before an element and after it
  pub split-in : {x : A} {l : List A} → x ∈ l → (a : List A) × (b : List A) × (l ≡ a ++ (x ∷ b))
  split-in {x} (here {xs = l} e) = ([], l, ap (◌∷ l) (sym e))
  split-in (there {x = y} m) = let r = split-in m in (y ∷ r.0, r.1, ap (y ∷◌) r.2)

-- ---- numbers that differ

pub differ-in : {x y : ℕ} → (x ≡ y → ⊥) → differ x y ≡ true
differ-in {x} {y} k = ap not (ne_eqb x y k)

pub differ-out : {x y : ℕ} → differ x y ≡ true → x ≡ y → ⊥
differ-out {x} {y} h e = eqb-false x y (not-true (eqb x y) h) e

-- numbers that all differ are no more than those of a list that holds them
pub once-le : (l m : List ℕ) → pairwise differ l ≡ true → ((x : ℕ) → x ∈ l → x ∈ m) → length l ≤ length m
once-le [] m h k = omega arith
once-le (x ∷ l) m h k =
    let q = ahead differ x l h in
    let rest : length l ≤ length (keep (differ x) m) = once-le l (keep (differ x) m) q.1
    (λ y i. keep-in (differ x) (k y (there i)) (all-out (differ x) i q.0)) in
    let less : length (keep (differ x) m) < length (keep (λ y. true) m) =
    keep-fewer (differ x) (λ y. true) m (k x (here refl)) (λ y i t. refl) (ap not (eq-eqb x x refl)) refl in
    let full : keep (λ y. true) m ≡ m = keep_all (λ y. true) m (all_in (λ y. true) m (λ y i. refl)) in
    omega (arith, ap length full)

-- a number that is not there may be put in front
pub once-cons : (x : ℕ) (l : List ℕ) → mem x l ≡ false → pairwise differ l ≡ true → pairwise differ (x ∷ l) ≡ true
once-cons x l t h = rw (all_in (differ x) l (λ y m. differ-in (λ e. clash (subst (λ (u : ℕ). mem u l ≡ true) (sym e) (mem-of m)) t))) h

-- and where they are no fewer, they have all of it
pub once-all : (l m : List ℕ) → pairwise differ l ≡ true → ((x : ℕ) → x ∈ l → x ∈ m) → length m ≤ length l → (y : ℕ) → y ∈ m → y ∈ l
once-all l m h k e y i = elim (decided (mem y l)) [
  | inl t ↦ of_mem y l t
  | inr t ↦ let w : suc (length l) ≤ length m = once-le (y ∷ l) m (once-cons y l t h) inside in absurd (omega arith)
]
  where
    inside : (x : ℕ) → x ∈ (y ∷ l) → x ∈ m
    inside x (here p) = subst (λ (u : ℕ). u ∈ m) (sym p) i
    inside x (there j) = k x j

-- numbers differ where each is new to those before it
pub once-in : (l : List ℕ) → ((a b : List ℕ) (v : ℕ) → l ≡ a ++ (v ∷ b) → mem v a ≡ false) → pairwise differ l ≡ true
unfolding mem
once-in [] h = refl
once-in (x ∷ l) h =
    rw (all_in (differ x) l (λ y m. let r = split-in m in
    let f = neither (eqb y x) (mem y r.0) (h (x ∷ r.0) r.1 y (ap (x ∷◌) r.2)) in
    differ-in (λ e. eqb-false y x f.0 (sym e))))
    (once-in l (λ a b v e. (neither (eqb v x) (mem v a) (h (x ∷ a) b v (ap (x ∷◌) e))).1))

-- and of numbers that differ none stands on both sides of a place
pub once-apart : (a b : List ℕ) → pairwise differ (a ++ b) ≡ true → {x : ℕ} → x ∈ a → x ∈ b → ⊥
once-apart [] b h m i = Memᴰ.not-nil m
once-apart (y ∷ a) b h {x} m i =
    let q = ahead differ y (a ++ b) h in
    elim (Memᴰ.cases_cons m) [
      | inl e ↦ differ-out (all-out (differ y) (Memᴰ.append_right a i) q.0) (sym e)
      | inr j ↦ once-apart a b q.1 j i
    ]
