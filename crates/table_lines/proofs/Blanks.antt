-- Blanks at the front: they are what is trimmed, and what no blank stands in is left. Assumes nothing.
use Prim.Native.Nat.{ℕ, suc, ◌<◌}
use mathlib.Core.Path.{◌≡◌, refl, ap, ◌∙◌}
use mathlib.Core.Bool.{Bool, true, false, cond, false≢true}
use mathlib.Core.List.{List, [], ◌∷◌, ◌++◌}
use native.Mathlib.Omega.{arith}
use lib.ListN.{length, length-append}
use Rattle.sets.{specs.Lists.all, proofs.Truth.both, proofs.Truth.together}
use Rattle.table_lines.specs.Text.{is_blank, starts_blank, Blanks, trim_front}
use Rattle.table_lines.proofs.Ends.{front-le}

-- a blank stands at the front exactly where trimming takes something off
pub blank-shorter : (r : List ℕ) → length (trim_front r) < length r → starts_blank r ≡ true
unfolding trim_front
blank-shorter [] h = absurd (omega arith)
blank-shorter (b ∷ r) h = go (is_blank b) h
  where
    go : (e : Bool) → length (cond e (trim_front r) (b ∷ r)) < suc (length r) → e ≡ true
    go true k = refl
    go false k = absurd (omega arith)

pub shorter-blank : (r : List ℕ) → starts_blank r ≡ true → length (trim_front r) < length r
unfolding trim_front
shorter-blank [] h = absurd (false≢true h)
shorter-blank (b ∷ r) h = rw h (omega (arith, front-le r))

-- what is trimmed is blanks
pub trimmed : (r : List ℕ) → (b : List ℕ) × (all is_blank b ≡ true) × (r ≡ b ++ trim_front r)
unfolding trim_front
trimmed [] = ([], refl, refl)
trimmed (x ∷ r) = go (is_blank x) refl (trimmed r)
  where
    go : (e : Bool) → is_blank x ≡ e → (b : List ℕ) × (all is_blank b ≡ true) × (r ≡ b ++ trim_front r)
        → (b : List ℕ) × (all is_blank b ≡ true) × (x ∷ r ≡ b ++ cond e (trim_front r) (x ∷ r))
    go true e t = (x ∷ t.0, together (is_blank x) (all is_blank t.0) e t.1, ap (λ (l : List ℕ). x ∷ l) t.2)
    go false e t = ([], refl, refl)

-- one or more, where one stands at the front
pub gap-out : (r : List ℕ) → starts_blank r ≡ true → (b : List ℕ) × Blanks b × (r ≡ b ++ trim_front r)
gap-out r h = let t = trimmed r in
    (t.0, record { one = omega (arith, shorter-blank r h, ap length t.2, length-append t.0 (trim_front r)); each = t.1 }, t.2)

-- they are trimmed before anything
pub front-blanks : (b r : List ℕ) → all is_blank b ≡ true → trim_front (b ++ r) ≡ trim_front r
unfolding trim_front
front-blanks [] r h = refl
front-blanks (x ∷ b) r h = rw (both (is_blank x) (all is_blank b) h).0 (front-blanks b r (both (is_blank x) (all is_blank b) h).1)

-- one or more stand at the front
pub starts-gap : (b o : List ℕ) → Blanks b → starts_blank (b ++ o) ≡ true
starts-gap [] o h = absurd (omega (arith, h.one))
starts-gap (x ∷ b) o h = (both (is_blank x) (all is_blank b) h.each).0

-- none is taken off where none stands
pub front-solid : (o : List ℕ) → starts_blank o ≡ false → trim_front o ≡ o
unfolding trim_front
front-solid [] h = refl
front-solid (x ∷ o) h = rw h

-- and bytes that are no blanks are left after them
module _ (p : ℕ → Bool) (solid : (x : ℕ) → p x ≡ true → is_blank x ≡ false) where
  starts-solid : (o : List ℕ) → all p o ≡ true → starts_blank o ≡ false
  starts-solid [] h = refl
  starts-solid (x ∷ o) h = solid x (both (p x) (all p o) h).0

  pub gap-in : (b o : List ℕ) → Blanks b → all p o ≡ true → (starts_blank (b ++ o) ≡ true) × (trim_front (b ++ o) ≡ o)
  gap-in b o h k = (starts-gap b o h, front-blanks b o h.each ∙ front-solid o (starts-solid o k))
