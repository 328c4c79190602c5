-- The literals common to the cubes above a cube, and what a co-kernel is, in the paper's words. Assumes nothing.
use Prim.Native.Nat.{ℕ, ◌<◌, ◌≤◌}
use mathlib.Core.Path.{◌≡◌, refl, sym, ◌∙◌, subst}
use mathlib.Core.Logic.{inl, inr, ◌↔◌}
use mathlib.Core.Bool.{true}
use mathlib.Core.List.Memᴰ
use mathlib.Core.List.Memᴰ.{head as here}
use mathlib.Core.List.Memᴰ.{tail as there}
use mathlib.Core.List.{List, [], ◌∷◌}
use native.Mathlib.Omega.{arith}
use lib.Dec.{leb}
use lib.ListN.{length}
use borrow.Author.Tests.{leb-true, le-leb}
use Rattle.sets.specs.Sets.{mem, sub, asc, same}
use Rattle.sets.proofs.Truth.{iff, both, together}
use Rattle.sets.proofs.Lists.{◌∈◌, keep-in, keep_out, keep-le, keep-cong}
use Rattle.sets.proofs.Sets.{meet-mem, meet-asc, sub_in, sub_out, sub_trans, same-eq, eq-same, ext}
use Rattle.expression.specs.Expression.{Cubes}
use Rattle.cokernel.specs.Meaning.{Held}
use Rattle.cokernel.specs.Cokernels.{above, common, is_cokernel}

-- ---- what some cubes have in common

pub common-out : (f : Cubes) (l : ℕ) {c : List ℕ} → c ∈ f → mem l (common f) ≡ true → mem l c ≡ true
unfolding common
common-out [] l m h = absurd (Memᴰ.not-nil m)
common-out (x ∷ []) l m h = elim (Memᴰ.cases_cons m) [ inl e ↦ rw e h | inr t ↦ absurd (Memᴰ.not-nil t) ]
common-out (x ∷ y ∷ f) l m h =
    let q = both (mem l x) (mem l (common (y ∷ f))) (sym (meet-mem l x (common (y ∷ f))) ∙ h) in
    elim (Memᴰ.cases_cons m) [ inl e ↦ rw e q.0 | inr t ↦ common-out (y ∷ f) l t q.1 ]

pub common-in : (f : Cubes) (l : ℕ) → 0 < length f → ((c : List ℕ) → c ∈ f → mem l c ≡ true) → mem l (common f) ≡ true
unfolding common
common-in [] l h k = absurd (omega arith)
common-in (x ∷ []) l h k = k x (here refl)
common-in (x ∷ y ∷ f) l h k =
    meet-mem l x (common (y ∷ f)) ∙ together _ _ (k x (here refl)) (common-in (y ∷ f) l (omega arith) (λ c m. k c (there m)))

pub common-asc : (f : Cubes) → ((c : List ℕ) → c ∈ f → asc c ≡ true) → asc (common f) ≡ true
unfolding common
common-asc [] k = refl
common-asc (x ∷ []) k = k x (here refl)
common-asc (x ∷ y ∷ f) k = meet-asc x (common (y ∷ f)) (k x (here refl))

-- ---- the cubes above a cube

module _ (f : Cubes) where
  pub above-asc : (n : ℕ) (c : List ℕ) → Held n f → asc (common (above f c)) ≡ true
  above-asc n c g = common-asc (above f c) (λ d m. g.rising d (keep_out (sub c) f m).0)

  -- fewer cubes contain more literals
  pub above-fewer : (a b : List ℕ) → sub a b ≡ true → length (above f b) ≤ length (above f a)
  above-fewer a b s = keep-le (sub b) (sub a) f (λ d m h. sub_trans a b d s h)

  -- and have more in common
  pub common-more : (a b : List ℕ) → sub a b ≡ true → 0 < length (above f b) → sub (common (above f a)) (common (above f b)) ≡ true
  common-more a b s h = sub_in _ _ (λ l m. common-in (above f b) l h (λ d i.
      let q = keep_out (sub b) f i in common-out (above f a) l (keep-in (sub a) q.0 (sub_trans a b d s q.1)) m))

  pub common-above : (c : List ℕ) → 0 < length (above f c) → sub c (common (above f c)) ≡ true
  common-above c h = sub_in _ _ (λ l m. common-in (above f c) l h (λ d i. sub_out c d l (keep_out (sub c) f i).1 m))

  -- a cube between another and what the cubes above that have in common has the same cubes above it
  pub above-between : (a b : List ℕ) → sub a b ≡ true → sub b (common (above f a)) ≡ true → above f b ≡ above f a
  above-between a b s t = keep-cong (sub b) (sub a) f (λ d m. iff
      (λ h. sub_trans a b d s h)
      (λ h. sub_in b d (λ l i. common-out (above f a) l (keep-in (sub a) m h) (sub_out b (common (above f a)) l t i))))

  -- ---- co-kernels

  pub cokernel-out : (c : List ℕ) → is_cokernel f c ≡ true → (2 ≤ length (above f c)) × (common (above f c) ≡ c)
  unfolding is_cokernel
  cokernel-out c h = let q = both (leb 2 (length (above f c))) (same (common (above f c)) c) h in (leb-true _ _ q.0, same-eq _ _ q.1)

  pub cokernel-in : (c : List ℕ) → 2 ≤ length (above f c) → common (above f c) ≡ c → is_cokernel f c ≡ true
  unfolding is_cokernel
  cokernel-in c h e = together _ _ (le-leb _ _ h) (eq-same _ _ e)

  -- at least two cubes contain it, and the literals common to all those are exactly its own
  pub cokernel-iff : (n : ℕ) → Held n f → (c : List ℕ) → asc c ≡ true
      → (is_cokernel f c ≡ true) ↔ ((2 ≤ length (above f c)) × ((l : ℕ) → (mem l c ≡ true) ↔ ((d : List ℕ) → d ∈ above f c → mem l d ≡ true)))
  cokernel-iff n g c a = (
    λ h. let q = cokernel-out c h in (
      q.0,
      λ l. (
        λ m d i. common-out (above f c) l i (rw q.1 m),
        λ k. subst (λ z. mem l z ≡ true) q.1
            (common-in (above f c) l (omega (arith, q.0)) k),
      ),
    ),
    λ (two, k). cokernel-in c two (ext _ c (above-asc n c g) a (λ l. iff
        (λ m. (k l).1 (λ d i. common-out (above f c) l i m))
        (λ m. common-in (above f c) l (omega arith) ((k l).0 m)))),
  )

  -- what two cubes or more have in common is a co-kernel
  pub common-cokernel : (c : List ℕ) → 2 ≤ length (above f c) → is_cokernel f (common (above f c)) ≡ true
  common-cokernel c h =
      let e = above-between c (common (above f c)) (common-above c (omega arith)) (sub_in _ _ (λ l m. m)) in
      cokernel-in (common (above f c)) (rw e h) (rw e)
