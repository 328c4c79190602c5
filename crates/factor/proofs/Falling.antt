-- F/l and the rest have fewer literals than F where l is in two cubes, so that the form of F needs no more turns than F has literals. Assumes nothing.
use Prim.Native.Nat.{ℕ, zero, suc, ◌+◌, ◌<◌, ◌≤◌}
use mathlib.Core.Path.{◌≡◌, refl, sym, ◌∙◌, ap, ap₂}
use mathlib.Core.Bool.{Bool, true, false, cond, not}
use mathlib.Core.List.{List, [], ◌∷◌, map}
use mathlib.Core.Logic.{inl, inr}
use native.Mathlib.Omega.{arith}
use lib.Dec.{ltb}
use lib.ListN.{length}
use borrow.Author.Tests.{lt-ltb, le-ltb, ltb-true, ltb-false}
use Rattle.sets.{specs.Lists.keep, specs.Lists.is_nil, specs.Sets.mem, specs.Sets.without, proofs.Truth.decided, proofs.Sets.of_mem, proofs.Sets.mem-head}
use Rattle.sets.proofs.Lists.{all_in, keep_all, keep-fewer}
use Rattle.expression.specs.Expression.{Cubes, literals_of}
use Rattle.factor.specs.Form.{used_in, most_used, divided_by, rest, Form, sum, times, plus, form_by}

without-shorter : (l : ℕ) (c : List ℕ) → mem l c ≡ true → length (without c (l ∷ [])) < length c
unfolding without
without-shorter l c h =
    let yes : ℕ → Bool = λ x. true in
    let all : keep yes c ≡ c = keep_all yes c (all_in yes c (λ x m. refl)) in
    let gone : not (mem l (l ∷ [])) ≡ false = rw (mem-head l []) in
    rw all at (keep-fewer (λ x. not (mem x (l ∷ []))) yes c (of_mem l c h) (λ x m p. refl) gone refl)

-- ---- the literals of both parts

pub literals-fall : (l : ℕ) (f : Cubes) → literals_of (divided_by l f) + used_in l f + literals_of (rest l f) ≤ literals_of f
literals-fall l [] = omega arith
literals-fall l (c ∷ f) = go (mem l c) refl (literals-fall l f)
  where
    go : (b : Bool) → mem l c ≡ b → literals_of (divided_by l f) + used_in l f + literals_of (rest l f) ≤ literals_of f
        → literals_of (map (λ d. without d (l ∷ [])) (cond b (c ∷ keep (mem l) f) (keep (mem l) f))) + length
        (cond b (c ∷ keep (mem l) f) (keep (mem l) f)) + literals_of (cond (not b) (c ∷ rest l f) (rest l f))
        ≤ length c + literals_of f
    go true e k = omega (arith, without-shorter l c e)
    go false e k = omega arith

pub divided_by-less : (l : ℕ) (f : Cubes) → 2 ≤ used_in l f → literals_of (divided_by l f) < literals_of f
divided_by-less l f h = omega (arith, literals-fall l f)

pub rest-less : (l : ℕ) (f : Cubes) → 2 ≤ used_in l f → literals_of (rest l f) < literals_of f
rest-less l f h = omega (arith, literals-fall l f)

-- ---- the form, case by case

module _ (f : Cubes) where
  abbrev l : ℕ
  l = most_used f

  abbrev turn : Bool → Bool → Form → Form → Form
  turn few none q r = cond few (sum f) (cond none (times l q) (plus l q r))

  form-suc : (k : ℕ) → form_by (suc k) f ≡ turn (ltb (used_in l f) 2) (is_nil (rest l f)) (form_by k (divided_by l f)) (form_by k (rest l f))
  unfolding form_by
  form-suc k = refl

  pub form-plain : (k : ℕ) → used_in l f < 2 → form_by k f ≡ sum f
  unfolding form_by
  form-plain zero h = refl
  form-plain (suc k) h = form-suc k ∙ ap (λ t. turn t (is_nil (rest l f)) (form_by k (divided_by l f)) (form_by k (rest l f))) (lt-ltb (used_in l f) 2 h)

  pub form-times : (k : ℕ) → 2 ≤ used_in l f → is_nil (rest l f) ≡ true → form_by (suc k) f ≡ times l (form_by k (divided_by l f))
  form-times k h e = form-suc k ∙ ap₂ (λ t u. turn t u (form_by k (divided_by l f)) (form_by k (rest l f))) (le-ltb (used_in l f) 2 h) e

  pub form-plus : (k : ℕ) → 2 ≤ used_in l f → is_nil (rest l f) ≡ false → form_by (suc k) f ≡ plus l (form_by k (divided_by l f)) (form_by k (rest l f))
  form-plus k h e = form-suc k ∙ ap₂ (λ t u. turn t u (form_by k (divided_by l f)) (form_by k (rest l f))) (le-ltb (used_in l f) 2 h) e

-- ---- as many turns as there are literals are enough

pub form-enough : (k j : ℕ) (f : Cubes) → literals_of f ≤ k → literals_of f ≤ j → form_by k f ≡ form_by j f
form-enough zero j f a b = let few : used_in (most_used f) f < 2 = omega (arith, literals-fall (most_used f) f) in form-plain f 0 few ∙ sym (form-plain f j few)
form-enough (suc k) zero f a b = let few : used_in (most_used f) f < 2 = omega (arith, literals-fall (most_used f) f) in form-plain f (suc k) few
    ∙ sym (form-plain f 0 few)
form-enough (suc k) (suc j) f a b =
    let l = most_used f in
    elim (decided (ltb (used_in l f) 2)) [
      | inl t ↦ let few : used_in l f < 2 = ltb-true _ _ t in form-plain f (suc k) few ∙ sym (form-plain f (suc j) few)
      | inr t ↦
          let many : 2 ≤ used_in l f = ltb-false _ _ t in
          let o = divided_by-less l f many in
          let s = rest-less l f many in
          form-suc f k
          ∙ ap₂ (turn f (ltb (used_in l f) 2) (is_nil (rest l f))) (form-enough k j (divided_by l f) (omega arith) (omega arith))
          (form-enough k j (rest l f) (omega arith) (omega arith))
          ∙ sym (form-suc f j)
    ]
