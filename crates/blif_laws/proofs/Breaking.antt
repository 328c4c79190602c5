-- Broken lines: a text means the same wherever lines are broken, one with no broken line stays, and what is joined byte by byte. Assumes nothing.
use Prim.Native.Nat.{ℕ, ◌+◌, ◌<◌, ◌≤◌}
use mathlib.Core.Path.{◌≡◌, refl, sym, ap, ap₂, ◌∙◌, subst}
use mathlib.Core.Logic.{◌⊎◌, inl, inr}
use mathlib.Core.Bool.{true, false, cond, ◌&&◌}
use mathlib.Core.List.{List, [], ◌∷◌, ◌++◌, head-eq_of_cons-eq}
use native.Mathlib.Omega.{arith}
use lib.Dec.{eqb}
use lib.ListN.{length, get_or, drop, length-drop, drop_of_length-le}
use borrow.Author.Tests.{eqb-true}
use Rattle.sets.proofs.{Truth.both, Truth.decided, Places.drop-next}
use Rattle.blif_laws.specs.Reading.{joined, model_in, judge_model, read_blif}
use Rattle.blif_laws.specs.Meaning.{Broken, BreaksAcross, Breaks, no_more, kept, put}

-- ---- the first byte

first-break : (t : List ℕ) → joined (92 ∷ 10 ∷ t) ≡ joined t
unfolding joined
first-break t = refl

first_byte : (x : ℕ) (t : List ℕ) → (x ≡ 92 → (u : List ℕ) → t ≡ 10 ∷ u → ⊥) → joined (x ∷ t) ≡ x ∷ joined t
unfolding joined
first_byte x [] h = refl
first_byte x (y ∷ t) h = elim (decided (eqb x 92 && eqb y 10)) [
  | inl e ↦ let q = both (eqb x 92) (eqb y 10) e in absurd (h (eqb-true x 92 q.0) t (ap (◌∷ t) (eqb-true y 10 q.1)))
  | inr e ↦ rw e
]

-- ---- the whole

broken-joined : (a b : List ℕ) → (BreaksAcross a b → ⊥) → joined (a ++ (92 ∷ 10 ∷ b)) ≡ joined (a ++ b)
unfolding joined
broken-joined [] b h = first-break b
broken-joined (x ∷ []) b h =
    first_byte x (92 ∷ 10 ∷ b) (λ e u p. let q = head-eq_of_cons-eq p in omega arith)
    ∙ ap (x ∷◌) (first-break b)
    ∙ sym (first_byte x b (λ e u p. h ([], u, ap (◌∷ []) e, p)))
broken-joined (x ∷ y ∷ a) b h = elim (decided (eqb x 92 && eqb y 10)) [
  | inl e ↦ rw e (broken-joined a b (λ q. h (x ∷ y ∷ q.0, q.1, ap (λ t. x ∷ y ∷ t) q.2, q.3)))
  | inr e ↦ rw e (ap (x ∷◌) (broken-joined (y ∷ a) b (λ q. h (x ∷ q.0, q.1, ap (x ∷◌) q.2, q.3))))
]

-- a broken line is read as the joined line is
pub broken-line : (a b : List ℕ) → (BreaksAcross a b → ⊥) → read_blif (a ++ (92 ∷ 10 ∷ b)) ≡ read_blif (a ++ b)
unfolding read_blif
broken-line a b h = ap (λ t. judge_model (model_in t)) (broken-joined a b h)

-- a text with no broken line stays
pub unbroken : (t : List ℕ) → (Broken t → ⊥) → joined t ≡ t
unfolding joined
unbroken [] h = refl
unbroken (x ∷ t) h =
    first_byte x t (λ e u p. h ([], u, ap₂ ◌∷◌ e p)) ∙ ap (x ∷◌) (unbroken t (λ q. h (x ∷ q.0, q.1, ap (x ∷◌) q.2)))

-- ---- breaks put in anywhere

-- a text that begins with LF after breaks were put in began with it before
breaks-first : {u t : List ℕ} → Breaks u (10 ∷ t) → (r : List ℕ) × (u ≡ 10 ∷ r)
breaks-first (kept b {u = u} s) = (u, refl)

-- a text with no broken line, with breaks put in anywhere, is joined to what it was
pub breaks-joined : {u t : List ℕ} → Breaks u t → (Broken u → ⊥) → joined t ≡ u
unfolding joined
breaks-joined no_more h = refl
breaks-joined (kept b {u = u} {t = t} s) h =
    first_byte b t (λ e r p. let q = breaks-first (subst (Breaks u) p s) in h ([], q.0, ap₂ ◌∷◌ e q.1))
    ∙ ap (b ∷◌) (breaks-joined s (λ q. h (b ∷ q.0, q.1, ap (b ∷◌) q.2)))
breaks-joined (put {t = t} s) h = first-break t ∙ breaks-joined s h

-- and so it is answered what it was
pub breaks-read : {u t : List ℕ} → Breaks u t → (Broken u → ⊥) → read_blif t ≡ read_blif u
unfolding read_blif
breaks-read {u} s h = ap (λ r. judge_model (model_in r)) (breaks-joined s h ∙ sym (unbroken u h))

-- every text is what it is joined to, with breaks put in
pub joined-breaks : (t : List ℕ) → Breaks (joined t) t
unfolding joined
joined-breaks [] = no_more
joined-breaks (b ∷ []) = kept b no_more
joined-breaks (b ∷ d ∷ t) = go (decided (eqb b 92 && eqb d 10)) (joined-breaks t) (joined-breaks (d ∷ t))
  where
    go : ((eqb b 92 && eqb d 10) ≡ true) ⊎ ((eqb b 92 && eqb d 10) ≡ false) → Breaks (joined t) t → Breaks (joined (d ∷ t)) (d ∷ t)
        → Breaks (cond (eqb b 92 && eqb d 10) (joined t) (b ∷ joined (d ∷ t))) (b ∷ d ∷ t)
    go (inl e) s r =
        let q = both (eqb b 92) (eqb d 10) e in
        rw e (subst (Breaks (joined t)) (ap₂ (λ (x y : ℕ). x ∷ y ∷ t) (sym (eqb-true b 92 q.0)) (sym (eqb-true d 10 q.1))) (put s))
    go (inr e) s r = rw e (kept b r)

-- ---- from place p on

module _ (s : List ℕ) (p : ℕ) where
  -- a backslash and an LF are left out
  pub joined-break : p + 1 < length s → get_or s p 0 ≡ 92 → get_or s (p + 1) 0 ≡ 10 → joined (drop p s) ≡ joined (drop (p + 2) s)
  joined-break h e f =
      let n : p + 1 + 1 ≡ p + 2 = omega arith in
      ap joined (drop-next s p 0 (omega arith) ∙ ap₂ ◌∷◌ e (drop-next s (p + 1) 0 h ∙ ap₂ (λ (x i : ℕ). x ∷ drop i s) f n)) ∙ first-break (drop (p + 2) s)

  -- any other byte stays
  pub joined-byte : p < length s → (p + 1 < length s → get_or s p 0 ≡ 92 → get_or s (p + 1) 0 ≡ 10 → ⊥) → joined (drop p s) ≡ get_or s p 0 ∷ joined (drop (p + 1) s)
  joined-byte h k = ap joined (drop-next s p 0 h) ∙ first_byte (get_or s p 0) (drop (p + 1) s) (λ e u q.
      let l : p + 1 < length s = omega (arith, ap length q, length-drop (p + 1) s) in
      k l e (head-eq_of_cons-eq (sym (drop-next s (p + 1) 0 l) ∙ q)))

  pub joined-done : length s ≤ p → joined (drop p s) ≡ []
  unfolding joined
  joined-done h = rw (drop_of_length-le s h)
