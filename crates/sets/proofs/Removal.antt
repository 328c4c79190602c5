-- A literal that two cubes share is removed from both: where neither contains the other, their order stays. Assumes nothing.
use mathlib.Core.Path.{◌≡◌, refl, sym, ◌∙◌, ap, ap₂, subst}
use mathlib.Core.Bool.{true, false, ◌||◌, or-false}
use mathlib.Core.List.{List, [], ◌∷◌}
use mathlib.Core.Logic.{◌⊎◌, inl, inr}
use Prim.Native.Nat.{ℕ, ◌<◌}
use native.Mathlib.Omega.{arith}
use lib.Dec.{eqb, ltb}
use borrow.Author.Tests.{eqb-true, eq-eqb, ne_eqb, ltb-true}
use Rattle.sets.specs.Lists.{all}
use Rattle.sets.specs.Sets.{mem, sub, asc, without, before}
use Rattle.sets.proofs.Truth.{both, either, decided, clash, refuted, or_left, or_right, Stand, below, equal, beyond, compared}
use Rattle.sets.proofs.Lists.{ahead}
use Rattle.sets.proofs.Sets.{sub_in, sub_out, head-le, tail-asc, head-once}
use Rattle.sets.proofs.Ordering.{before_same, before_head, before-asym}

module _ (l : ℕ) where
  pub without-here : (a : List ℕ) → without (l ∷ a) (l ∷ []) ≡ without a (l ∷ [])
  unfolding without mem
  without-here a = rw (eq-eqb l l refl)

  pub without-there : (x : ℕ) (a : List ℕ) → (x ≡ l → ⊥) → without (x ∷ a) (l ∷ []) ≡ x ∷ without a (l ∷ [])
  unfolding without mem
  without-there x a h = rw (ne_eqb x l h)

  pub without-absent : (a : List ℕ) → mem l a ≡ false → without a (l ∷ []) ≡ a
  unfolding without mem
  without-absent [] h = refl
  without-absent (x ∷ a) h = go (compared l x) (without-absent a)
    where
      go : Stand l x → (mem l a ≡ false → without a (l ∷ []) ≡ a) → without (x ∷ a) (l ∷ []) ≡ x ∷ a
      go (below s p q) ih = without-there x a (λ e. omega arith) ∙ ap (x ∷◌) (ih (rw q at h))
      go (equal s p q) ih = clash (or_left (eqb l x) (mem l a) q) h
      go (beyond s p q) ih = without-there x a (λ e. omega arith) ∙ ap (x ∷◌) (ih (rw q at h))

  -- members of a tail
  tail-has : (x : ℕ) (a : List ℕ) → (x ≡ l → ⊥) → mem l (x ∷ a) ≡ true → mem l a ≡ true
  unfolding mem
  tail-has x a h m = rw (ne_eqb l x (λ e. h (sym e))) at m

-- one that begins lower comes first, before and after
lower : (l x y : ℕ) (a b : List ℕ) → asc (x ∷ a) ≡ true → asc (y ∷ b) ≡ true → mem l (x ∷ a) ≡ true → mem l (y ∷ b) ≡ true
    → sub (y ∷ b) (x ∷ a) ≡ false → x < y → before (without (x ∷ a) (l ∷ [])) (without (y ∷ b) (l ∷ [])) ≡ true
lower l x y a b p q m n s h = rw (without-there l x a (λ e. omega (arith, head-le y b l q n))) (go (compared y l) b refl)
  where
    go : Stand y l → (c : List ℕ) → b ≡ c → before (x ∷ without a (l ∷ [])) (without (y ∷ b) (l ∷ [])) ≡ true
    go (below t _ _) c e = rw (without-there l y b (λ e. omega arith)) (before_head x y _ _ h)
    go (equal t _ _) [] e = clash (sub_in (y ∷ b) (x ∷ a) (λ z i. ap (λ w. mem w (x ∷ a)) (only z (subst (λ w. mem z (y ∷ w) ≡ true) e i)) ∙ m)) s
      where
        only : (z : ℕ) → mem z (y ∷ []) ≡ true → z ≡ l
        only z i = one (unfold mem in i)
          where
            one : (eqb z y || false) ≡ true → z ≡ l
            one j = eqb-true z y (sym (or-false (eqb z y)) ∙ j) ∙ t
    go (equal t _ _) (z ∷ c) e =
        let o : asc (y ∷ z ∷ c) ≡ true = subst (λ w. asc (y ∷ w) ≡ true) e q in
        let u : y < z = ltb-true y z (both (ltb y z) (all (ltb y) c) (ahead ltb y (z ∷ c) o).0).0 in
        let k : without (y ∷ b) (l ∷ []) ≡ z ∷ c = ap (λ w. without (w ∷ b) (l ∷ [])) t ∙ without-here l b
        ∙ without-absent l b (ap (λ w. mem w b) (sym t) ∙ head-once y b q) ∙ e in
        rw k (before_head x z _ _ (omega arith))
    go (beyond t _ _) c e = absurd (omega (arith, head-le y b l q n))

tail-loose : (x : ℕ) (a b : List ℕ) → sub (x ∷ a) (x ∷ b) ≡ false → sub a b ≡ false
unfolding mem
tail-loose x a b h = refuted (λ s. clash (sub_in (x ∷ a) (x ∷ b) (λ z m. elim (either (eqb z x) (mem z a) m)
    [ inl e ↦ or_left (eqb z x) (mem z b) e | inr t ↦ or_right (eqb z x) (mem z b) (sub_out a b z s t) ])) h)

pub before-removed : (l : ℕ) (a b : List ℕ) → asc a ≡ true → asc b ≡ true → mem l a ≡ true → mem l b ≡ true → sub a b ≡ false → sub b a ≡ false
    → before (without a (l ∷ [])) (without b (l ∷ [])) ≡ before a b
before-removed l [] b p q m n s t = clash m (unfold mem in refl)
before-removed l (x ∷ a) [] p q m n s t = clash n (unfold mem in refl)
before-removed l (x ∷ a) (y ∷ b) p q m n s t = go (compared x y) (before-removed l a b (tail-asc x a p) (tail-asc y b q))
  where
    go : Stand x y → (mem l a ≡ true → mem l b ≡ true → sub a b ≡ false → sub b a ≡ false → before (without a (l ∷ [])) (without b (l ∷ [])) ≡ before a b)
        → before (without (x ∷ a) (l ∷ [])) (without (y ∷ b) (l ∷ [])) ≡ before (x ∷ a) (y ∷ b)
    go (below h _ _) ih = lower l x y a b p q m n t h ∙ sym (before_head x y a b h)
    go (beyond h _ _) ih = before-asym _ _ (lower l y x b a q p n m s h) ∙ sym (before-asym _ _ (before_head y x b a h))
    go (equal h _ _) ih = alike (decided (eqb x l))
      where
        q' : asc (x ∷ b) ≡ true
        q' = subst (λ w. asc (w ∷ b) ≡ true) (sym h) q

        alike : (eqb x l ≡ true) ⊎ (eqb x l ≡ false) → before (without (x ∷ a) (l ∷ [])) (without (y ∷ b) (l ∷ [])) ≡ before (x ∷ a) (y ∷ b)
        alike (inl e) =
            let r : x ≡ l = eqb-true x l e in
            let gone : (c : List ℕ) → asc (x ∷ c) ≡ true → without (x ∷ c) (l ∷ []) ≡ c = λ c o.
            ap (λ w. without (w ∷ c) (l ∷ [])) r ∙ without-here l c ∙ without-absent l c (ap (λ w. mem w c) (sym r) ∙ head-once x c o) in
            ap₂ before (gone a p) (ap (λ w. without (w ∷ b) (l ∷ [])) (sym h) ∙ gone b q') ∙ sym (ap (λ w. before (x ∷ a) (w ∷ b)) (sym h) ∙ before_same x a b)
        alike (inr e) =
            let r : x ≡ l → ⊥ = λ k. clash (eq-eqb x l k) e in
            ap₂ before (without-there l x a r) (ap (λ w. without (w ∷ b) (l ∷ [])) (sym h) ∙ without-there l x b r) ∙ before_same x _ _
            ∙ ih (tail-has l x a r m) (tail-has l x b r (ap (λ w. mem l (w ∷ b)) h ∙ n)) (tail-loose x a b (ap (λ w. sub (x ∷ a) (w ∷ b)) h ∙ s))
            (tail-loose x b a (ap (λ w. sub (w ∷ b) (x ∷ a)) h ∙ t))
            ∙ sym (ap (λ w. before (x ∷ a) (w ∷ b)) (sym h) ∙ before_same x a b)
