-- What a chain of an iterator's items answers, by the tests of this crate. Assumes nothing.
use Rattle.std.proofs.Common.{◌≡◌, ◌∙◌, ap, subst, sym, refl, map, Bool, Option, List, [], ◌∷◌, ◌&&◌, ◌||◌}
use Rattle.std.specs.List.{list_all, list_any, FoldsTo}
use Rattle.std.specs.Fn.{Called}
use Rattle.std.specs.Iterator.{ChecksAll, ChecksAny, FoldTurn, FoldsItems}
use Rattle.std.proofs.lemmas.Iterator.{YieldsList, items_from_drains}
use Rattle.std.proofs.lemmas.Iterator.Search.{all_from_yields_List, any_from_yields_List}
use denote.Param.Members.{Mut}
use Rattle.sets.specs.Lists.{all, any}

all-is : {A : Type 0} (p : A → Bool) (l : List A) → list_all p l ≡ all p l
all-is p [] = refl
all-is p (x ∷ l) = ap (p x &&◌) (all-is p l)

any-is : {A : Type 0} (p : A → Bool) (l : List A) → list_any p l ≡ any p l
any-is p [] = refl
any-is p (x ∷ l) = ap (p x ||◌) (any-is p l)

module _ {S A B F : Type 0} {steps : S → Option A → S → Type 0} {v : A → B} {g : Mut F (A × Unit {0}) Bool} {s : S} {l : List B} (test : B → Bool) (u : S) (f : F) (r : Bool) where
  -- whether all items pass a test that the closure computes
  pub all-chain : ChecksAll steps g s f r u → YieldsList steps v s l → ((x : A) (b : Bool) (q : F) → Called g f (x, tt) b q → (q ≡ f) × (b ≡ test (v x))) → r ≡ all test l
  all-chain d e k = all_from_yields_List test u f r d e k ∙ all-is test l

  -- whether one does
  pub any-chain : ChecksAny steps g s f r u → YieldsList steps v s l → ((x : A) (b : Bool) (q : F) → Called g f (x, tt) b q → (q ≡ f) × (b ≡ test (v x))) → r ≡ any test l
  any-chain d e k = any_from_yields_List test u f r d e k ∙ any-is test l

-- what holds at first, of a total and of the items to come, and is kept by every step of a fold, holds at the end, with no more to come
module _ {A B C F : Type 0} {v : A → B} {g : Mut F (C × (A × Unit {0})) C} (I : C → List B → Type 0) (f : F)
    (k : (a : C) (x : A) (ys : List B) (b : C) (q : F) → I a (v x ∷ ys) → Called g f (a, (x, tt)) b q → (q ≡ f) × I b ys) where
  turns : (xs : List A) (p q : F × C) → p.0 ≡ f → FoldsTo {P = F × C} (FoldTurn g) p xs q → I p.1 (map v xs) → I q.1 []
  turns [] p q e t i = subst (λ w. I w.1 []) t i
  turns (x ∷ xs) p q e t i =
      let m = k p.1 x (map v xs) t.0.1 t.0.0 i (subst (λ w. Called g w (p.1, (x, tt)) t.0.1 t.0.0) e t.1) in turns xs t.0 q m.0 t.2 m.1

  pub fold-keeps : {S : Type 0} {steps : S → Option A → S → Type 0} {s : S} {l : List B} (init r : C) → FoldsItems steps g s f init r → YieldsList steps v s l → I init l → I r []
  fold-keeps {steps = steps} {s} init r d e i = turns d.0 (f, init) (d.1, r) refl d.3 (subst (I init) (sym (items_from_drains {steps = steps} {s = s} d.0 (d.2.1.0, d.2.1.1, λ _. (d.2.0, d.2.1.2)) e)) i)
