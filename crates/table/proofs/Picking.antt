-- The cubes picked by a bit of their masks: one more place, and how many. Assumes nothing.
use Prim.Native.Nat.{ℕ, zero, suc, ◌+◌, ◌<◌, ◌≤◌}
use mathlib.Core.Path.{◌≡◌, refl, ap, sym, ◌∙◌}
use mathlib.Core.Bool.{Bool, true, false, cond}
use mathlib.Core.List.{List, [], ◌∷◌, ◌++◌, append-nil}
use native.Mathlib.Numerals.{add-one}
use native.Mathlib.Omega.{arith}
use lib.ListN.{length, get_or, take, length-append}
use Rattle.sets.specs.Masks.{bit}
use Rattle.expression.specs.Words.{cubes_of, Put, Appends}
use Rattle.expression.proofs.Placing.{appends-none, appends-as, appends-put}
use Rattle.table.specs.Parts.{picked, pick, Stock}

onto : (b : Bool) (c : List ℕ) (f g : List (List ℕ)) → cond b (c ∷ (f ++ g)) (f ++ g) ≡ cond b (c ∷ f) f ++ g
onto true c f g = refl
onto false c f g = refl

module _ (j : ℕ) where
  -- one more place
  next : (f : List (List ℕ)) (ms : List ℕ) (i : ℕ) → i < length f → i < length ms
      → picked j (take (suc i) f) (take (suc i) ms) ≡ picked j (take i f) (take i ms) ++ cond (bit (get_or ms i 0) j) (get_or f i [] ∷ []) []
  unfolding picked
  next [] ms i h k = absurd (omega arith)
  next (c ∷ f) [] i h k = absurd (omega arith)
  next (c ∷ f) (m ∷ ms) zero h k = refl
  next (c ∷ f) (m ∷ ms) (suc i) h k = rw (next f ms i (omega arith) (omega arith))
      (onto (bit m j) c (picked j (take i f) (take i ms)) (cond (bit (get_or ms i 0) j) (get_or f i [] ∷ []) []))

  -- from fewer places no more are picked
  pub picked-fewer : (f : List (List ℕ)) (ms : List ℕ) (i k : ℕ) → i ≤ k → length (picked j (take i f) (take i ms)) ≤ length (picked j (take k f) (take k ms))
  unfolding picked
  picked-fewer f ms zero k h = omega arith
  picked-fewer f ms (suc i) zero h = absurd (omega arith)
  picked-fewer [] ms (suc i) (suc k) h = omega arith
  picked-fewer (c ∷ f) [] (suc i) (suc k) h = omega arith
  picked-fewer (c ∷ f) (m ∷ ms) (suc i) (suc k) h = go (bit m j) (picked-fewer f ms i k (omega arith))
    where
      go : (b : Bool) → length (picked j (take i f) (take i ms)) ≤ length (picked j (take k f) (take k ms))
          → length (cond b (c ∷ picked j (take i f) (take i ms)) (picked j (take i f) (take i ms))) ≤ length
          (cond b (c ∷ picked j (take k f) (take k ms)) (picked j (take k f) (take k ms)))
      go true e = omega arith
      go false e = e

-- ---- the cubes picked, put one after the other

module _ (j : ℕ) {words marks : List ℕ} {kept : ℕ} (o : Stock words marks kept) where
  pub pick-none : (ws : List ℕ) (a : ℕ) → Appends ws ws a (pick j words marks 0) a
  unfolding picked
  pick-none ws a = appends-none ws a

  module _ (i : ℕ) {old mid : List ℕ} {a to : ℕ} (h : i < kept) (t : Appends old mid a (pick j words marks i) to) where
    more : {b : Bool} → bit (get_or marks i 0) j ≡ b → pick j words marks (i + 1) ≡ pick j words marks i ++ cond b (get_or (cubes_of words) i [] ∷ []) []
    more e = rw (add-one, next j (cubes_of words) marks i (omega (arith, o.cubes)) (omega (arith, o.masks)), e)

    pub pick-skip : bit (get_or marks i 0) j ≡ false → Appends old mid a (pick j words marks (i + 1)) to
    pick-skip e = appends-as (sym (more e ∙ append-nil (pick j words marks i))) t

    -- there is room for one more
    pub pick-room : {z : ℕ} → bit (get_or marks i 0) j ≡ true → a + length (pick j words marks kept) ≤ z → to < z
    pick-room e l =
        omega (
          arith,
          t.next,
          ap length (more e),
          length-append (pick j words marks i) (get_or (cubes_of words) i [] ∷ []),
          picked-fewer j (cubes_of words) marks (i + 1) kept (omega arith),
        )

    pub pick_put : {new : List ℕ} {c : List ℕ} → bit (get_or marks i 0) j ≡ true → a + length (pick j words marks kept) ≤ length (cubes_of old)
        → c ≡ get_or (cubes_of words) i [] → Put mid new to c → Appends old new a (pick j words marks (i + 1)) (to + 1)
    pick_put e l k q = appends-as (sym (more e ∙ ap (λ (z : List ℕ). pick j words marks i ++ (z ∷ [])) (sym k))) (appends-put t (pick-room e l) q)
