-- Laws of tests and folds over lists: membership against `any`, `all`, `keep`, `map`, `total`, `pairwise`. Assumes nothing.
use mathlib.Core.Path.{◌≡◌, refl, sym, ap, ap₂, ◌∙◌, subst}
use mathlib.Core.Logic.{◌⊎◌, inl, inr}
use mathlib.Core.Bool.{Bool, true, false, cond, not, ◌&&◌, ◌||◌, false≢true, or-true, and_assoc}
use mathlib.Core.List.Memᴰ
use mathlib.Core.List.Memᴰ.{head as here}
use mathlib.Core.List.Memᴰ.{tail as there}
use mathlib.Core.List.{List, [], ◌∷◌, ◌++◌, map, Memᴰ}
use Prim.Native.Nat.{ℕ, zero, suc, ◌+◌, ◌*◌, ◌≤◌, ◌<◌}
use native.Mathlib.Omega.{arith}
use lib.ListN.{length, take, drop, take-append-drop}
use lib.Seq.{take-take}
use Rattle.sets.specs.Lists.{any, all, keep, total, pairwise}
use Rattle.sets.proofs.Truth.{both, together, either, neither, decided, clash}

module _ {A : Type 0} where
  infix 20 ◌∈◌
  abbrev pub ◌∈◌ : A → List A → Type 0
  x ∈ l = Memᴰ x l

  -- ---- any, all

  pub any-in : {x : A} {l : List A} (f : A → Bool) → x ∈ l → f x ≡ true → any f l ≡ true
  any-in f (here e) h = rw (← e, h)
  any-in f (there m) h = rw (any-in f m h, or-true)

  pub any_out : (f : A → Bool) (l : List A) → any f l ≡ true → (x : A) × (x ∈ l) × (f x ≡ true)
  any_out f [] h = absurd (false≢true h)
  any_out f (x ∷ l) h =
      elim (either (f x) (any f l) h) [ inl e ↦ (x, here refl, e) | inr e ↦ let r = any_out f l e in (r.0, there r.1, r.2) ]

  pub all_in : (f : A → Bool) (l : List A) → ((x : A) → x ∈ l → f x ≡ true) → all f l ≡ true
  all_in f [] k = refl
  all_in f (x ∷ l) k = rw (k x (here refl)) (all_in f l (λ y m. k y (there m)))

  pub all-out : {x : A} {l : List A} (f : A → Bool) → x ∈ l → all f l ≡ true → f x ≡ true
  all-out f (here {x = y} {xs = l} e) h = rw e (both (f y) (all f l) h).0
  all-out f (there {x = y} {xs = l} m) h = all-out f m (both (f y) (all f l) h).1

  pub all-cong : (f g : A → Bool) (l : List A) → ((x : A) → x ∈ l → f x ≡ g x) → all f l ≡ all g l
  all-cong f g [] k = refl
  all-cong f g (x ∷ l) k = ap₂ ◌&&◌ (k x (here refl)) (all-cong f g l (λ y m. k y (there m)))

  pub any-cong : (f g : A → Bool) (l : List A) → ((x : A) → x ∈ l → f x ≡ g x) → any f l ≡ any g l
  any-cong f g [] k = refl
  any-cong f g (x ∷ l) k = ap₂ ◌||◌ (k x (here refl)) (any-cong f g l (λ y m. k y (there m)))

  pub all_append : (f : A → Bool) (l m : List A) → all f (l ++ m) ≡ (all f l && all f m)
  all_append f [] m = refl
  all_append f (x ∷ l) m = rw (all_append f l m) (sym (and_assoc (f x) (all f l) (all f m)))

  pub all_join : (f : A → Bool) (l m : List A) → all f l ≡ true → all f m ≡ true → all f (l ++ m) ≡ true
  all_join f l m h k = all_append f l m ∙ together (all f l) (all f m) h k

  pub all-parts : (f : A → Bool) (l m : List A) → all f (l ++ m) ≡ true → (all f l ≡ true) × (all f m ≡ true)
  all-parts f l m h = both (all f l) (all f m) (sym (all_append f l m) ∙ h)

  -- what follows for each follows for all
  pub all-imp : (f g : A → Bool) → ((x : A) → f x ≡ true → g x ≡ true) → (l : List A) → all f l ≡ true → all g l ≡ true
  all-imp f g i l h = all_in g l (λ x m. i x (all-out f m h))

  pub none-join : (f : A → Bool) (l m : List A) → any f l ≡ false → any f m ≡ false → any f (l ++ m) ≡ false
  none-join f [] m h k = k
  none-join f (x ∷ l) m h k = let q = neither (f x) (any f l) h in rw q.0 (none-join f l m q.1 k)

  -- some element fails a test that not all pass
  pub all-fails : (f : A → Bool) (l : List A) → all f l ≡ false → (x : A) × (x ∈ l) × (f x ≡ false)
  all-fails f [] h = clash refl h
  all-fails f (x ∷ l) h = elim (decided (f x)) [
    | inl e ↦ let q = all-fails f l (rw e at h) in (q.0, there q.1, q.2)
    | inr e ↦ (x, here refl, e)
  ]

  -- ---- keep

  pub keep-in : {x : A} {l : List A} (f : A → Bool) → x ∈ l → f x ≡ true → x ∈ keep f l
  keep-in f (here e) h = rw (ap f (sym e) ∙ h) (here e)
  keep-in {x} f (there {x = y} {xs = l} m) h =
      elim (f y) as (λ b. x ∈ cond b (y ∷ keep f l) (keep f l)) [ true ↦ there (keep-in f m h) | false ↦ keep-in f m h ]

  pub keep_out : (f : A → Bool) (l : List A) {x : A} → x ∈ keep f l → (x ∈ l) × (f x ≡ true)
  keep_out f [] m = absurd (Memᴰ.not-nil m)
  keep_out f (y ∷ l) {x} m = go (f y) refl m (λ k. keep_out f l k)
    where
      go : (b : Bool) → f y ≡ b → x ∈ cond b (y ∷ keep f l) (keep f l) → (x ∈ keep f l → (x ∈ l) × (f x ≡ true)) → (x ∈ (y ∷ l)) × (f x ≡ true)
      go true e (here p) k = (here p, ap f p ∙ e)
      go true e (there q) k = (there (k q).0, (k q).1)
      go false e q k = (there (k q).0, (k q).1)

  pub keep_all : (f : A → Bool) (l : List A) → all f l ≡ true → keep f l ≡ l
  keep_all f [] h = refl
  keep_all f (x ∷ l) h = let q = both (f x) (all f l) h in rw q.0 (ap (x ∷◌) (keep_all f l q.1))

  -- no more passes a stricter test
  kept-le : (g : A → ℕ) (p q : A → Bool) (l : List A) → ((x : A) → x ∈ l → p x ≡ true → q x ≡ true) → total g (keep p l) ≤ total g (keep q l)
  kept-le g p q [] h = omega arith
  kept-le g p q (x ∷ l) h = go (p x) (q x) (h x (here refl)) (kept-le g p q l (λ y m. h y (there m)))
    where
      go : (a b : Bool) → (a ≡ true → b ≡ true) → total g (keep p l) ≤ total g (keep q l)
          → total g (cond a (x ∷ keep p l) (keep p l)) ≤ total g (cond b (x ∷ keep q l) (keep q l))
      go true true k i = omega arith
      go true false k i = clash (k refl) refl
      go false true k i = omega arith
      go false false k i = i

  pub total-keep-le : (g : A → ℕ) (p q : A → Bool) (l : List A) → ((x : A) → p x ≡ true → q x ≡ true) → total g (keep p l) ≤ total g (keep q l)
  total-keep-le g p q l h = kept-le g p q l (λ x m. h x)

  pub total-ones : (l : List A) → total (λ x. 1) l ≡ length l
  total-ones [] = refl
  total-ones (x ∷ l) = omega (arith, total-ones l)

  pub keep-le : (p q : A → Bool) (l : List A) → ((x : A) → x ∈ l → p x ≡ true → q x ≡ true) → length (keep p l) ≤ length (keep q l)
  keep-le p q l h = omega (arith, total-ones (keep p l), total-ones (keep q l), kept-le (λ x. 1) p q l h)

  pub keep-length : (p : A → Bool) (l : List A) → length (keep p l) ≤ length l
  keep-length p l = rw (keep_all (λ x. true) l (all_in (λ x. true) l (λ x m. refl))) at (keep-le p (λ x. true) l (λ x m h. refl))

  pub keep-cong : (p q : A → Bool) (l : List A) → ((x : A) → x ∈ l → p x ≡ q x) → keep p l ≡ keep q l
  keep-cong p q [] k = refl
  keep-cong p q (x ∷ l) k = rw (k x (here refl), keep-cong p q l (λ y m. k y (there m)))

  pub keep_append : (p : A → Bool) (l m : List A) → keep p (l ++ m) ≡ keep p l ++ keep p m
  keep_append p [] m = refl
  keep_append p (x ∷ l) m =
      elim (p x) as (λ b. cond b (x ∷ keep p (l ++ m)) (keep p (l ++ m)) ≡ cond b (x ∷ keep p l) (keep p l) ++ keep p m)
      [ true ↦ ap (x ∷◌) (keep_append p l m) | false ↦ keep_append p l m ]

  pub keep-none : (p : A → Bool) (l : List A) → any p l ≡ false → keep p l ≡ []
  keep-none p [] h = refl
  keep-none p (x ∷ l) h = let q = neither (p x) (any p l) h in rw q.0 (keep-none p l q.1)

  -- kept twice, by a stricter test
  pub keep-keep : (p q : A → Bool) (l : List A) → ((x : A) → p x ≡ true → q x ≡ true) → keep p (keep q l) ≡ keep p l
  keep-keep p q [] h = refl
  keep-keep p q (x ∷ l) h = go (p x) (q x) refl refl (keep-keep p q l h)
    where
      go : (a b : Bool) → p x ≡ a → q x ≡ b → keep p (keep q l) ≡ keep p l → keep p (cond b (x ∷ keep q l) (keep q l)) ≡ cond a (x ∷ keep p l) (keep p l)
      go true true e f r = rw e (ap (x ∷◌) r)
      go true false e f r = clash (h x e) f
      go false true e f r = rw e r
      go false false e f r = r

  -- one element more, and so a longer list
  pub keep-fewer : (p q : A → Bool) (l : List A) {y : A} → y ∈ l → ((x : A) → x ∈ l → p x ≡ true → q x ≡ true) → p y ≡ false → q y ≡ true
      → length (keep p l) < length (keep q l)
  keep-fewer p q [] m h b c = absurd (Memᴰ.not-nil m)
  keep-fewer p q (x ∷ l) {y} m h b c = go (p x) (q x) refl refl (Memᴰ.cases_cons m) (λ i. keep-fewer p q l i (λ z j. h z (there j)) b c)
    where
      go : (t u : Bool) → p x ≡ t → q x ≡ u → (y ≡ x) ⊎ (y ∈ l) → (y ∈ l → length (keep p l) < length (keep q l))
          → length (cond t (x ∷ keep p l) (keep p l)) < length (cond u (x ∷ keep q l) (keep q l))
      go true true d e (inl w) k = clash d (ap p (sym w) ∙ b)
      go true true d e (inr i) k = omega (arith, k i)
      go true false d e w k = clash (h x (here refl) d) e
      go false true d e w k = omega (arith, keep-le p q l (λ z j. h z (there j)))
      go false false d e (inl w) k = clash (ap q (sym w) ∙ c) e
      go false false d e (inr i) k = k i

  -- ---- total

  pub total-append : (f : A → ℕ) (l m : List A) → total f (l ++ m) ≡ total f l + total f m
  total-append f [] m = omega arith
  total-append f (x ∷ l) m = omega (arith, total-append f l m)

  pub total-cong : (f g : A → ℕ) (l : List A) → ((x : A) → x ∈ l → f x ≡ g x) → total f l ≡ total g l
  total-cong f g [] h = refl
  total-cong f g (x ∷ l) h = ap₂ ◌+◌ (h x (here refl)) (total-cong f g l (λ y m. h y (there m)))

  pub total-le : (f g : A → ℕ) (l : List A) → ((x : A) → x ∈ l → f x ≤ g x) → total f l ≤ total g l
  total-le f g [] h = omega arith
  total-le f g (x ∷ l) h = omega (arith, h x (here refl), total-le f g l (λ y m. h y (there m)))

  pub total-in : (f : A → ℕ) {x : A} {l : List A} → x ∈ l → f x ≤ total f l
  total-in f (here {xs = l} e) = omega (arith, ap f e)
  total-in f (there m) = omega (arith, total-in f m)

  -- the sum of a front part is no more than that of a longer one
  pub total-take-le : (f : A → ℕ) (l : List A) (i j : ℕ) → i ≤ j → total f (take i l) ≤ total f (take j l)
  total-take-le f l i j h =
      omega (arith, ap (total f) (take-append-drop i (take j l)), total-append f (take i (take j l)) (drop i (take j l)), ap (total f) (take-take i j l h))

  -- g and a constant for f, where they agree on the list
  pub total-const : (f g : A → ℕ) (k : ℕ) (l : List A) → ((x : A) → x ∈ l → f x ≡ g x + k) → total f l ≡ total g l + length l * k
  total-const f g k [] h = omega arith
  total-const f g k (x ∷ l) h = omega (arith, h x (here refl), total-const f g k l (λ y m. h y (there m)))

  pub total-sum : (f g h : A → ℕ) (l : List A) → ((x : A) → x ∈ l → f x ≡ g x + h x) → total f l ≡ total g l + total h l
  total-sum f g h [] k = refl
  total-sum f g h (x ∷ l) k = omega (arith, k x (here refl), total-sum f g h l (λ y m. k y (there m)))

  pub total-times : (f : A → ℕ) (k : ℕ) (l : List A) → total (λ x. f x * k) l ≡ total f l * k
  total-times f k [] = omega arith
  total-times f k (x ∷ l) = omega (arith, total-times f k l)

  pub total-split : (f : A → ℕ) (p : A → Bool) (l : List A) → total f l ≡ total f (keep p l) + total f (keep (λ x. not (p x)) l)
  total-split f p [] = refl
  total-split f p (x ∷ l) =
      elim (p x) as (λ b. f x + total f l ≡ total f (cond b (x ∷ keep p l) (keep p l)) + total f
      (cond (not b) (x ∷ keep (λ y. not (p y)) l) (keep (λ y. not (p y)) l)))
      [ true ↦ omega (arith, total-split f p l) | false ↦ omega (arith, total-split f p l) ]

  pub total-or : (f : A → ℕ) (p q : A → Bool) (l : List A) → ((x : A) → x ∈ l → p x ≡ true → q x ≡ true → ⊥)
      → total f (keep (λ x. p x || q x) l) ≡ total f (keep p l) + total f (keep q l)
  total-or f p q [] h = refl
  total-or f p q (x ∷ l) h = go (p x) (q x) (h x (here refl)) (total-or f p q l (λ y m. h y (there m)))
    where
      go : (b c : Bool) → (b ≡ true → c ≡ true → ⊥) → total f (keep (λ y. p y || q y) l) ≡ total f (keep p l) + total f (keep q l)
          → total f (cond (b || c) (x ∷ keep (λ y. p y || q y) l) (keep (λ y. p y || q y) l)) ≡ total f (cond b (x ∷ keep p l) (keep p l)) + total f
          (cond c (x ∷ keep q l) (keep q l))
      go true true n k = absurd (n refl refl)
      go true false n k = omega arith
      go false true n k = omega arith
      go false false n k = k

  -- ---- pairwise

  pub ahead : (r : A → A → Bool) (x : A) (l : List A) → pairwise r (x ∷ l) ≡ true → (all (r x) l ≡ true) × (pairwise r l ≡ true)
  ahead r x l h = both (all (r x) l) (pairwise r l) h

  pub pairwise_drop : (r : A → A → Bool) (i : ℕ) (l : List A) → pairwise r l ≡ true → pairwise r (drop i l) ≡ true
  pairwise_drop r zero l h = h
  pairwise_drop r (suc i) [] h = h
  pairwise_drop r (suc i) (x ∷ l) h = pairwise_drop r i l (ahead r x l h).1

  pub pairwise-keep : (r : A → A → Bool) (p : A → Bool) (l : List A) → pairwise r l ≡ true → pairwise r (keep p l) ≡ true
  pairwise-keep r p [] h = refl
  pairwise-keep r p (x ∷ l) h =
      elim (p x) as (λ b. pairwise r (cond b (x ∷ keep p l) (keep p l)) ≡ true) [
        | true ↦ rw (all_in (r x) (keep p l) (λ y m. all-out (r x) (keep_out p l m).0 (ahead r x l h).0)) (pairwise-keep r p l (ahead r x l h).1)
        | false ↦ pairwise-keep r p l (ahead r x l h).1
      ]

  -- two elements are one, or r holds between them
  pub pairwise-out : (r : A → A → Bool) → ((x y : A) → r x y ≡ true → r y x ≡ true) → {x y : A} {l : List A} → pairwise r l ≡ true → x ∈ l → y ∈ l
      → (x ≡ y) ⊎ (r x y ≡ true)
  pairwise-out r flip h (here e) (here g) = inl (e ∙ sym g)
  pairwise-out r flip {y = y} h (here {x = z} {xs = l} e) (there n) = inr (rw e (all-out (r z) n (ahead r z l h).0))
  pairwise-out r flip {x = x} h (there {x = z} {xs = l} m) (here g) = inr (rw g (flip z x (all-out (r z) m (ahead r z l h).0)))
  pairwise-out r flip h (there {x = z} {xs = l} m) (there n) = pairwise-out r flip (ahead r z l h).1 m n

  pub pairwise-imp : (r s : A → A → Bool) (l : List A) → ((x y : A) → r x y ≡ true → s x y ≡ true) → pairwise r l ≡ true → pairwise s l ≡ true
  pairwise-imp r s [] k h = refl
  pairwise-imp r s (x ∷ l) k h =
      rw (all_in (s x) l (λ y m. k x y (all-out (r x) m (ahead r x l h).0))) (pairwise-imp r s l k (ahead r x l h).1)

  pub pairwise_append : (r : A → A → Bool) (l m : List A) → pairwise r l ≡ true → pairwise r m ≡ true → ((x y : A) → x ∈ l → y ∈ m → r x y ≡ true)
      → pairwise r (l ++ m) ≡ true
  pairwise_append r [] m h k c = k
  pairwise_append r (x ∷ l) m h k c =
      rw (all_in (r x) (l ++ m) (λ y i. elim (Memᴰ.append_cases l i) [ inl j ↦ all-out (r x) j (ahead r x l h).0 | inr j ↦ c x y (here refl) j ]))
      (pairwise_append r l m (ahead r x l h).1 k (λ y z i j. c y z (there i) j))

  -- ---- two lists with the same elements, none of them twice, have the same total

  module _ (r : A → A → Bool) (flip : (x y : A) → r x y ≡ true → r y x ≡ true) (self : (x : A) → r x x ≡ false) where
    total-take : (f : A → ℕ) {x : A} {l : List A} → x ∈ l → pairwise r l ≡ true → total f l ≡ f x + total f (keep (r x) l)
    total-take f {x} (here {x = y} {xs = l} e) h =
        rw (← e, self x, keep_all (r x) l (subst (λ z. all (r z) l ≡ true) (sym e) (ahead r y l h).0))
    total-take f {x} (there {x = y} {xs = l} m) h =
        rw (flip y x (all-out (r y) m (ahead r y l h).0)) (omega (arith, total-take f m (ahead r y l h).1))

    pub total-same : (f : A → ℕ) (l m : List A) → pairwise r l ≡ true → pairwise r m ≡ true → ((x : A) → x ∈ l → x ∈ m) → ((x : A) → x ∈ m → x ∈ l)
        → total f l ≡ total f m
    total-same f [] [] h k i o = refl
    total-same f [] (y ∷ m) h k i o = absurd (Memᴰ.not-nil (o y (here refl)))
    total-same f (x ∷ l) m h k i o =
        rw (total-take f (i x (here refl)) k)
        (ap (f x +◌) (total-same f l (keep (r x) m) (ahead r x l h).1 (pairwise-keep r (r x) m k)
        (λ y j. keep-in (r x) (i y (there j)) (all-out (r x) j (ahead r x l h).0))
        (λ y j. let q = keep_out (r x) m j in
        elim (Memᴰ.cases_cons (o y q.0)) [ inl e ↦ clash q.1 (ap (r x) e ∙ self x) | inr t ↦ t ])))

module _ {A B : Type 0} where
  pub map-in : {x : A} {l : List A} (g : A → B) → x ∈ l → g x ∈ map g l
  map-in g (here e) = here (ap g e)
  map-in g (there m) = there (map-in g m)

  pub map-out : (g : A → B) (l : List A) {y : B} → y ∈ map g l → (x : A) × (x ∈ l) × (y ≡ g x)
  map-out g [] m = absurd (Memᴰ.not-nil m)
  map-out g (x ∷ l) {y} m =
      elim (Memᴰ.cases_cons m) [ inl e ↦ (x, here refl, e) | inr t ↦ let r = map-out g l t in (r.0, there r.1, r.2) ]

  pub total-map : (f : B → ℕ) (g : A → B) (l : List A) → total f (map g l) ≡ total (λ x. f (g x)) l
  total-map f g [] = refl
  total-map f g (x ∷ l) = omega (arith, total-map f g l)

  pub pairwise_map : (r : A → A → Bool) (s : B → B → Bool) (g : A → B) (l : List A)
      → ((x y : A) → x ∈ l → y ∈ l → r x y ≡ true → s (g x) (g y) ≡ true) → pairwise r l ≡ true → pairwise s (map g l) ≡ true
  pairwise_map r s g [] k h = refl
  pairwise_map r s g (x ∷ l) k h =
      rw (all_in (s (g x)) (map g l) (λ y m. let q = map-out g l m in
      subst (λ z. s (g x) z ≡ true) (sym q.2) (k x q.0 (here refl) (there q.1) (all-out (r x) q.1 (ahead r x l h).0))))
      (pairwise_map r s g l (λ y z i j. k y z (there i) (there j)) (ahead r x l h).1)

  pub map-cong : (f g : A → B) (l : List A) → ((x : A) → x ∈ l → f x ≡ g x) → map f l ≡ map g l
  map-cong f g [] k = refl
  map-cong f g (x ∷ l) k = ap₂ ◌∷◌ (k x (here refl)) (map-cong f g l (λ y m. k y (there m)))

pub map-map : {A B C : Type 0} (f : B → C) (g : A → B) (l : List A) → map f (map g l) ≡ map (λ x. f (g x)) l
map-map f g [] = refl
map-map f g (x ∷ l) = ap (f (g x) ∷◌) (map-map f g l)

pub map-fixed : {A : Type 0} (h : A → A) (l : List A) → ((x : A) → x ∈ l → h x ≡ x) → map h l ≡ l
map-fixed h [] k = refl
map-fixed h (x ∷ l) k = ap₂ ◌∷◌ (k x (here refl)) (map-fixed h l (λ y m. k y (there m)))
