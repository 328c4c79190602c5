-- What the cubes of a node become, one after the other: in cube order, the node rewritten. Assumes nothing.
use Prim.Native.Nat.{ℕ, suc, ◌≤◌}
use mathlib.Core.Path.{◌≡◌, refl, sym, ap, ◌∙◌}
use mathlib.Core.Bool.{Bool, true, false, cond, not}
use mathlib.Core.List.{List, [], ◌∷◌, ◌++◌, map, append-nil}
use Rattle.std.specs.Prelude.{Option, None, Some}
use native.Mathlib.Omega.{arith}
use lib.ListN.{length}
use Rattle.std.specs.List.{filter_map, cons_option}
use Rattle.std.proofs.lemmas.List.Elements.{filter_map-append}
use Rattle.sets.{specs.Lists.keep, proofs.Truth.clash}
use Rattle.expression.specs.Expression.{place, sort}
use Rattle.expression.proofs.Sorting.{sort-length, sort-middle}
use Rattle.extract_laws.specs.Divisor.{Divisor, part, hit, gone, swap, rewrite}
use Rattle.extract_laws.proofs.Using.{hit-gone}
use Rattle.extract_step.specs.Parts.{fate}

module _ {A B : Type 0} (g : A → Option B) where
  pub left-length : (l : List A) → length (filter_map g l) ≤ length l
  left-length [] = omega arith
  left-length (x ∷ l) = go (g x) (left-length l)
    where
      go : (o : Option B) → length (filter_map g l) ≤ length l → length (cons_option o (filter_map g l)) ≤ suc (length l)
      go None h = omega arith
      go (Some y) h = omega arith

  -- one more element
  pub left-none : (l : List A) (x : A) → g x ≡ None → filter_map g (l ++ (x ∷ [])) ≡ filter_map g l
  left-none l x e = filter_map-append g l (x ∷ []) ∙ rw e (append-nil (filter_map g l))

  pub left-one : (l : List A) (x : A) (y : B) → g x ≡ Some y → filter_map g (l ++ (x ∷ [])) ≡ filter_map g l ++ (y ∷ [])
  left-one l x y e = filter_map-append g l (x ∷ []) ∙ rw e

module _ (x : ℕ) (d : Divisor) (f : List (List ℕ)) where
  -- however the cubes of the uses and the others are mixed, they sort alike
  become-sort : (l : List (List ℕ)) → sort (filter_map (fate x d f) l) ≡ sort (map (swap x (part d)) (keep (hit d f) l) ++ keep (λ c. not (gone d f c)) l)
  unfolding sort fate
  become-sort [] = refl
  become-sort (c ∷ l) = go (hit d f c) (gone d f c) (hit-gone d f c) (become-sort l)
    where
      uses : List (List ℕ)
      uses = keep (hit d f) l

      rest : List (List ℕ)
      rest = keep (λ c. not (gone d f c)) l

      go : (h g : Bool) → (h ≡ true → g ≡ true) → sort (filter_map (fate x d f) l) ≡ sort (map (swap x (part d)) uses ++ rest)
          → sort (cons_option (cond h (Some (swap x (part d) c)) (cond g None (Some c))) (filter_map (fate x d f) l)) ≡ sort
          (map (swap x (part d)) (cond h (c ∷ uses) uses) ++ cond (not g) (c ∷ rest) rest)
      go true true k e = ap (place (swap x (part d) c)) e
      go true false k e = clash (k refl) refl
      go false true k e = e
      go false false k e = ap (place c) e ∙ sym (sort-middle (map (swap x (part d)) uses) c rest)

  pub become-rewrite : sort (filter_map (fate x d f) f) ≡ rewrite x d f
  unfolding rewrite
  become-rewrite = become-sort f

  -- no more cubes than before
  pub rewrite-length : length (rewrite x d f) ≤ length f
  rewrite-length = rw (← become-rewrite, sort-length) (left-length (fate x d f) f)
