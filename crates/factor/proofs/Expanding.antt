-- Multiplying a form out gives the cubes of F, each as often as F has it; so the form has the value of F. Assumes nothing.
use Prim.Native.Nat.{ℕ, zero, suc}
use mathlib.Core.Path.{◌≡◌, refl, sym, ◌∙◌, ap, ap₂, subst}
use mathlib.Core.Bool.{Bool, true, false, cond, not, ◌&&◌, ◌||◌, and-true, and-false, and-or_distrib_left}
use mathlib.Core.List.Memᴰ.{head as here}
use mathlib.Core.List.Memᴰ.{tail as there}
use mathlib.Core.List.{List, [], ◌∷◌, ◌++◌, map, append-nil}
use mathlib.Core.Logic.{inl, inr, ◌↔◌}
use lib.Dec.{ltb}
use lib.ListN.{length}
use borrow.Author.Tests.{ltb-true, ltb-false}
use Rattle.sets.specs.Lists.{any, all, keep, is_nil}
use Rattle.sets.specs.Sets.{mem, sub, asc, insert, union, without, before}
use Rattle.sets.proofs.Truth.{decided, clash}
use Rattle.sets.proofs.Lists.{◌∈◌, all_in, all-out, keep_out, map-out}
use Rattle.sets.proofs.Sets.{without-asc, rejoin, union_comm, insert_all}
use Rattle.expression.specs.Expression.{Cubes, expression, ordered, place, sort}
use Rattle.expression.proofs.Sorting.{sort-in, sort-out, sort-length, sort-sort, sort-middle, sort-append-comm, all-sort, value-sort, expression-sort}
use Rattle.expression.proofs.Values.{append-value}
use Rattle.division.proofs.Quotients.{cube-asc}
use Rattle.factor.specs.Form.{used_in, most_used, divided_by, rest, Form, sum, times, plus, form_by, form_of, expanded, form_value}
use Rattle.factor.proofs.Falling.{form-plain, form-times, form-plus}

-- ---- lists with the same cubes, each as often: their sorts are one

module _ (g : List ℕ → List ℕ) where
  map-place : (c : List ℕ) (f : Cubes) → sort (map g (place c f)) ≡ place (g c) (sort (map g f))
  unfolding place sort
  map-place c [] = refl
  map-place c (d ∷ f) =
      elim (before d c) as (λ b. sort (map g (cond b (d ∷ place c f) (c ∷ d ∷ f))) ≡ place (g c) (sort (map g (d ∷ f)))) [
        | true ↦ ap (place (g d)) (map-place c f) ∙ sort-middle (g d ∷ []) (g c) (map g f)
        | false ↦ refl
      ]

  map-sort : (f : Cubes) → sort (map g (sort f)) ≡ sort (map g f)
  unfolding sort
  map-sort [] = refl
  map-sort (c ∷ f) = map-place c (sort f) ∙ ap (place (g c)) (map-sort f)

  pub sort-map : (x y : Cubes) → sort x ≡ sort y → sort (map g x) ≡ sort (map g y)
  sort-map x y e = sym (map-sort x) ∙ ap (λ s. sort (map g s)) e ∙ map-sort y

append-sort : (f g : Cubes) → sort (f ++ sort g) ≡ sort (f ++ g)
unfolding sort
append-sort [] g = sort-sort g
append-sort (c ∷ f) g = ap (place c) (append-sort f g)

append-second : (f x y : Cubes) → sort x ≡ sort y → sort (f ++ x) ≡ sort (f ++ y)
append-second f x y e = sym (append-sort f x) ∙ ap (λ s. sort (f ++ s)) e ∙ append-sort f y

pub sort-append : (x x' y y' : Cubes) → sort x ≡ sort x' → sort y ≡ sort y' → sort (x ++ y) ≡ sort (x' ++ y')
sort-append x x' y y' e d = append-second x y y' d ∙ sort-append-comm x y' ∙ append-second y' x x' e ∙ sort-append-comm y' x'

pub sort-keep : (p : List ℕ → Bool) (f : Cubes) → sort (keep p f ++ keep (λ c. not (p c)) f) ≡ sort f
unfolding sort
sort-keep p [] = refl
sort-keep p (c ∷ f) =
    elim (p c) as (λ b. sort (cond b (c ∷ keep p f) (keep p f) ++ cond (not b) (c ∷ keep (λ d. not (p d)) f) (keep (λ d. not (p d)) f)) ≡ place c (sort f)) [
      | true ↦ ap (place c) (sort-keep p f)
      | false ↦ sort-middle (keep p f) c (keep (λ d. not (p d)) f) ∙ ap (place c) (sort-keep p f)
    ]

-- ---- F/l with l put back is the cubes of F that have l

insert-back : (l : ℕ) (c : List ℕ) → asc c ≡ true → mem l c ≡ true → insert l (without c (l ∷ [])) ≡ c
unfolding union sub
insert-back l c h m = union_comm (l ∷ []) (without c (l ∷ [])) refl (without-asc c (l ∷ []) h) ∙ rejoin c (l ∷ []) h refl (and-true (mem l c) ∙ m)

divided_by-back : (l : ℕ) (f : Cubes) → ((c : List ℕ) → c ∈ f → insert l (without c (l ∷ [])) ≡ c) → map (insert l) (map (λ c. without c (l ∷ [])) f) ≡ f
divided_by-back l [] h = refl
divided_by-back l (c ∷ f) h = ap₂ ◌∷◌ (h c (here refl)) (divided_by-back l f (λ d m. h d (there m)))

module _ (l : ℕ) (f : Cubes) (h : all asc f ≡ true) where
  pub divided_by-multiplied : map (insert l) (divided_by l f) ≡ keep (mem l) f
  divided_by-multiplied = divided_by-back l (keep (mem l) f) (λ c m. let q = keep_out (mem l) f m in insert-back l c (all-out asc q.0 h) q.1)

  divided_by-asc : all asc (divided_by l f) ≡ true
  divided_by-asc = all_in asc (divided_by l f) (λ c m. let q = map-out (λ d. without d (l ∷ [])) (keep (mem l) f) m in
      ap asc q.2 ∙ without-asc q.0 (l ∷ []) (all-out asc (keep_out (mem l) f q.1).0 h))

  rest-asc : all asc (rest l f) ≡ true
  rest-asc = all_in asc (rest l f) (λ c m. all-out asc (keep_out (λ d. not (mem l d)) f m).0 h)

nil_is : (f : Cubes) → is_nil f ≡ true → f ≡ []
nil_is [] h = refl
nil_is (c ∷ f) h = clash h refl

-- ---- multiplied out

pub expanded-sort : (k : ℕ) (f : Cubes) → all asc f ≡ true → sort (expanded (form_by k f)) ≡ sort f
unfolding form_by expanded
expanded-sort zero f h = refl
expanded-sort (suc k) f h =
    let l = most_used f in
    let first = sort-map (insert l) (expanded (form_by k (divided_by l f))) (divided_by l f) (expanded-sort k (divided_by l f) (divided_by-asc l f h))
    ∙ ap sort (divided_by-multiplied l f h) in
    let second = expanded-sort k (rest l f) (rest-asc l f h) in
    elim (decided (ltb (used_in l f) 2)) [
      | inl t ↦ ap (λ x. sort (expanded x)) (form-plain f (suc k) (ltb-true _ _ t))
      | inr t ↦ elim (decided (is_nil (rest l f))) [
        | inl n ↦ ap (λ x. sort (expanded x)) (form-times f k (ltb-false _ _ t) n) ∙ first
            ∙ ap sort (sym (append-nil _) ∙ ap (keep (mem l) f ++◌) (sym (nil_is _ n))) ∙ sort-keep (mem l) f
        | inr n ↦ ap (λ x. sort (expanded x)) (form-plus f k (ltb-false _ _ t) n) ∙ sort-append _ _ _ _ first second ∙ sort-keep (mem l) f
      ]
    ]

module _ (f : Cubes) (h : all asc f ≡ true) where
  -- the cubes of F, each as often
  pub multiplied : sort (expanded (form_of f)) ≡ sort f
  multiplied = expanded-sort _ (sort f) (all-sort asc f ∙ h) ∙ sort-sort f

  pub multiplied-length : length (expanded (form_of f)) ≡ length f
  multiplied-length = sym (sort-length (expanded (form_of f))) ∙ ap length multiplied ∙ sort-length f

  pub multiplied-iff : (c : List ℕ) → (c ∈ expanded (form_of f)) ↔ (c ∈ f)
  multiplied-iff c = (
    λ m. sort-out f (subst (λ s. c ∈ s) multiplied (sort-in m)),
    λ m. sort-out (expanded (form_of f))
        (subst (λ s. c ∈ s) (sym multiplied) (sort-in m)),
  )

-- ---- the value

module _ (v : ℕ → Bool) where
  any-insert : (l : ℕ) (f : Cubes) → any (all v) (map (insert l) f) ≡ (v l && any (all v) f)
  any-insert l [] = sym (and-false (v l))
  any-insert l (c ∷ f) = ap₂ ◌||◌ (insert_all v l c) (any-insert l f) ∙ sym (and-or_distrib_left (v l) (all v c) (any (all v) f))

  -- a form has the value of the cubes that multiplying out gives
  pub form-value : (x : Form) → form_value v x ≡ any (all v) (expanded x)
  unfolding form_value expanded
  form-value (sum f) = refl
  form-value (times l q) = ap (v l &&◌) (form-value q) ∙ sym (any-insert l (expanded q))
  form-value (plus l q r) =
      ap₂ (λ a b. (v l && a) || b) (form-value q) (form-value r) ∙ ap (◌|| any (all v) (expanded r)) (sym (any-insert l (expanded q)))
      ∙ sym (append-value v (map (insert l) (expanded q)) (expanded r))

  pub factored-value : (f : Cubes) → all asc f ≡ true → form_value v (form_of f) ≡ any (all v) f
  factored-value f h = form-value (form_of f) ∙ sym (value-sort v (expanded (form_of f))) ∙ ap (any (all v)) (multiplied f h) ∙ value-sort v f

-- ---- an expression's cubes are ascending, and multiplying out gives none twice

pub expression-asc : (f : Cubes) → expression f ≡ true → all asc f ≡ true
expression-asc f h = all_in asc f (λ c m. cube-asc f h m)

pub multiplied-once : (f : Cubes) → expression f ≡ true → ordered (sort (expanded (form_of f))) ≡ true
multiplied-once f h = ap ordered (multiplied f (expression-asc f h)) ∙ (expression-sort f h).1
