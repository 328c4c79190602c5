-- Absorption: which cubes are dropped, by places; each cube contains a kept one, no kept one another, and the value is the same. Assumes nothing.
use Prim.Native.Nat.{ℕ, suc, ◌≤◌}
use mathlib.Core.Path.{◌≡◌, refl, sym, ◌∙◌, ap}
use mathlib.Core.Logic.{◌⊎◌, inl, inr, ◌↔◌}
use mathlib.Core.Bool.{Bool, true, false, cond, not, ◌&&◌, ◌||◌}
use mathlib.Core.List.Memᴰ
use mathlib.Core.List.Memᴰ.{head as here}
use mathlib.Core.List.Memᴰ.{tail as there}
use mathlib.Core.List.{List, [], ◌∷◌, ◌++◌, map}
use native.Mathlib.Omega.{arith}
use lib.ListN.{length, get_or, take, drop, length-append}
use lib.Seq.{take-append_seam, drop-append_seam, get_or-append_seam, append_snoc}
use borrow.Author.Tests.{not-true}
use Rattle.sets.specs.Lists.{any, all, keep, total, pairwise, from}
use Rattle.sets.specs.Sets.{sub, asc, same}
use Rattle.sets.proofs.Truth.{iff, both, together, either, or_left, or_right, decided, clash, refuted}
use Rattle.sets.proofs.Lists.{◌∈◌, any-in, any_out, all_in, all-out, ahead, total-ones}
use Rattle.sets.proofs.Sets.{sub_refl, sub_trans, sub-antisym, sub_out, mem-all, all-mem, same-eq, eq-same}
pub use Rattle.expression.specs.Expression.{Cubes}
use Rattle.expression.specs.Expression.{is_cube, loose, expression, literals_of, dropped, absorb_from, absorbed}

-- d is contained in c; d is a smaller set
abbrev within : List ℕ → List ℕ → Bool
within c d = sub d c

abbrev smaller : List ℕ → List ℕ → Bool
smaller c d = sub d c && not (same d c)

-- ---- which cube is dropped

module _ (a : Cubes) (c : List ℕ) (b : Cubes) where
  abbrev Other : Type 0
  Other = (d : List ℕ) × (d ∈ (a ++ b)) × (sub d c ≡ true) × (same d c ≡ false)

  dropped-out : dropped a c b ≡ true → Other ⊎ (c ∈ a)
  unfolding dropped
  dropped-out h = elim (either (any (within c) a) (any (smaller c) b) h) [ inl k ↦ early (any_out (within c) a k) | inr k ↦ late (any_out (smaller c) b k) ]
    where
      early : (d : List ℕ) × (d ∈ a) × (sub d c ≡ true) → Other ⊎ (c ∈ a)
      early (d, m, s) = elim (decided (same d c)) [ inl e ↦ inr (Memᴰ.cast (sym (same-eq d c e)) m) | inr e ↦ inl (d, Memᴰ.append_left b m, s, e) ]

      late : (d : List ℕ) × (d ∈ b) × (smaller c d ≡ true) → Other ⊎ (c ∈ a)
      late (d, m, s) = let q = both (sub d c) (not (same d c)) s in inl (d, Memᴰ.append_right a m, q.0, not-true (same d c) q.1)

  pub dropped-early : {d : List ℕ} → d ∈ a → sub d c ≡ true → dropped a c b ≡ true
  unfolding dropped
  dropped-early m s = or_left (any (within c) a) (any (smaller c) b) (any-in (within c) m s)

  pub dropped-late : {d : List ℕ} → d ∈ b → sub d c ≡ true → same d c ≡ false → dropped a c b ≡ true
  unfolding dropped
  dropped-late m s e = or_right (any (within c) a) (any (smaller c) b) (any-in (smaller c) m (together _ _ s (ap not e)))

  dropped-in : Other ⊎ (c ∈ a) → dropped a c b ≡ true
  dropped-in (inr m) = dropped-early m (sub_refl c)
  dropped-in (inl (d, m, s, e)) = elim (Memᴰ.append_cases a m) [ inl i ↦ dropped-early i s | inr i ↦ dropped-late i s e ]

  -- some other cube is contained in it as a smaller set of literals, or an equal one stands earlier
  pub dropped-iff : (dropped a c b ≡ true) ↔ (((d : List ℕ) × (d ∈ (a ++ b)) × (sub d c ≡ true) × (same d c ≡ false)) ⊎ (c ∈ a))
  dropped-iff = (dropped-out, dropped-in)

  -- none that stands earlier is contained in a cube that is kept, and none that stands later as a smaller set
  pub kept-early : dropped a c b ≡ false → (d : List ℕ) → d ∈ a → sub d c ≡ false
  kept-early h d m = refuted (λ s. clash (dropped-early m s) h)

  pub kept-late : dropped a c b ≡ false → (d : List ℕ) → d ∈ b → same d c ≡ false → sub d c ≡ false
  kept-late h d m e = refuted (λ s. clash (dropped-late m s e) h)

-- of ascending cubes the smaller set does not contain the other
pub smaller-strict : (d c : List ℕ) → asc d ≡ true → asc c ≡ true → sub d c ≡ true → same d c ≡ false → sub c d ≡ false
smaller-strict d c h k s e = refuted (λ t. clash (eq-same d c (sub-antisym d c h k s t)) e)

-- only which cubes stand earlier counts, not their order
dropped-same : (a e : Cubes) (c : List ℕ) (b : Cubes) → ((x : List ℕ) → x ∈ a → x ∈ e) → ((x : List ℕ) → x ∈ e → x ∈ a) → dropped a c b ≡ dropped e c b
unfolding dropped
dropped-same a e c b i o = ap (λ t. t || any (smaller c) b) (iff
    (λ h. let r = any_out (within c) a h in any-in (within c) (i _ r.1) r.2)
    (λ h. let r = any_out (within c) e h in any-in (within c) (o _ r.1) r.2))

-- ---- the kept cubes, by their places

module _ (f : Cubes) where
  abbrev stays : ℕ → Bool
  stays p = not (dropped (take p f) (get_or f p []) (drop (suc p) f))

  places : (a l e : Cubes) → f ≡ a ++ l → ((x : List ℕ) → x ∈ a → x ∈ e) → ((x : List ℕ) → x ∈ e → x ∈ a)
      → absorb_from e l ≡ map (λ p. get_or f p []) (keep stays (from (length a) (length l)))
  unfolding absorb_from from
  places a [] e q i o = refl
  places a (c ∷ l) e q i o = go (dropped e c l) refl (places (a ++ (c ∷ [])) l (c ∷ e) (q ∙ sym (append_snoc a c l)) wide narrow)
    where
      wide : (x : List ℕ) → x ∈ (a ++ (c ∷ [])) → x ∈ (c ∷ e)
      wide x m = elim (Memᴰ.append_cases a m) [
        | inl k ↦ there (i x k)
        | inr k ↦ elim
            (Memᴰ.cases_cons k) [ inl g ↦ here g | inr g ↦ absurd (Memᴰ.not-nil g) ]
      ]

      narrow : (x : List ℕ) → x ∈ (c ∷ e) → x ∈ (a ++ (c ∷ []))
      narrow x m = elim (Memᴰ.cases_cons m) [ inl g ↦ Memᴰ.append_right a (here g) | inr k ↦ Memᴰ.append_left (c ∷ []) (o x k) ]

      at : get_or f (length a) [] ≡ c
      at = rw q (get_or-append_seam a c l [])

      before : take (length a) f ≡ a
      before = rw q (take-append_seam a (c ∷ l))

      more : length (a ++ (c ∷ [])) ≡ suc (length a)
      more = length-append a (c ∷ []) ∙ native.Mathlib.Numerals.add-one (length a)

      after : drop (suc (length a)) f ≡ l
      after = rw (q ∙ sym (append_snoc a c l), ← more) (drop-append_seam (a ++ (c ∷ [])) l)

      same_test : stays (length a) ≡ not (dropped e c l)
      same_test = rw (at, before, after) (ap not (dropped-same a e c l i o))

      go : (b : Bool) → dropped e c l ≡ b
          → absorb_from (c ∷ e) l ≡ map (λ p. get_or f p []) (keep stays (from (length (a ++ (c ∷ []))) (length l)))
          → cond b (absorb_from (c ∷ e) l) (c ∷ absorb_from (c ∷ e) l)
          ≡ map (λ p. get_or f p []) (cond (stays (length a)) (length a ∷ keep stays (from (suc (length a)) (length l)))
          (keep stays (from (suc (length a)) (length l))))
      go true t r = rw (same_test ∙ ap not t, ← more) r
      go false t r = rw (same_test ∙ ap not t, at, ← more) (ap (c ∷◌) r)

  -- the cubes at the places whose cube is not dropped for those before and those after it, in their order
  pub absorbed-iff : absorbed f ≡ map (λ p. get_or f p []) (keep (λ p. not (dropped (take p f) (get_or f p []) (drop (suc p) f))) (from 0 (length f)))
  absorbed-iff = places [] f [] refl (λ x m. m) (λ x m. m)

-- ---- what is kept was there, and no more of it

module _ (e : Cubes) where
  pub absorb-nil : absorb_from e [] ≡ []
  unfolding absorb_from
  absorb-nil = refl

  module _ (c : List ℕ) (l : Cubes) where
    pub absorb-dropped : dropped e c l ≡ true → absorb_from e (c ∷ l) ≡ absorb_from (c ∷ e) l
    unfolding absorb_from
    absorb-dropped h = rw h

    pub absorb-kept : dropped e c l ≡ false → absorb_from e (c ∷ l) ≡ c ∷ absorb_from (c ∷ e) l
    unfolding absorb_from
    absorb-kept h = rw h

    -- a fact of both
    absorb-cases : (P : Cubes → Type 0) → (dropped e c l ≡ true → P (absorb_from (c ∷ e) l)) → (dropped e c l ≡ false → P (c ∷ absorb_from (c ∷ e) l))
        → P (absorb_from e (c ∷ l))
    absorb-cases P t u = elim (decided (dropped e c l)) [ inl h ↦ rw (absorb-dropped h) (t h) | inr h ↦ rw (absorb-kept h) (u h) ]

-- a kept cube was there, and contains none that stood earlier
kept_in : (e l : Cubes) (x : List ℕ) → x ∈ absorb_from e l → (x ∈ l) × ((d : List ℕ) → d ∈ e → sub d x ≡ false)
kept_in e [] x m = absurd (Memᴰ.not-nil (rw (absorb-nil e) at m))
kept_in e (c ∷ l) x m = absorb-cases e c l (λ k. x ∈ k → (x ∈ (c ∷ l)) × ((d : List ℕ) → d ∈ e → sub d x ≡ false))
    (λ h m. let r = kept_in (c ∷ e) l x m in (there r.0, λ d i. r.1 d (there i)))
    (λ h m. elim (Memᴰ.cases_cons m) [
      | inl q ↦ (here q, λ d i. rw q (kept-early e c l h d i))
      | inr k ↦ let r = kept_in (c ∷ e) l x k in (there r.0, λ d i. r.1 d (there i))
    ]) m

pub absorbed-sub : (f : Cubes) (x : List ℕ) → x ∈ absorbed f → x ∈ f
absorbed-sub f x m = (kept_in [] f x m).0

pub absorbed-all : (p : List ℕ → Bool) (f : Cubes) → all p f ≡ true → all p (absorbed f) ≡ true
absorbed-all p f h = all_in p (absorbed f) (λ x m. all-out p (absorbed-sub f x m) h)

-- no sum over the cubes rises
total-from : (g : List ℕ → ℕ) (e l : Cubes) → total g (absorb_from e l) ≤ total g l
total-from g e [] = rw (absorb-nil e) (omega arith)
total-from g e (c ∷ l) = let r = total-from g (c ∷ e) l in absorb-cases e c l (λ k. total g k ≤ total g (c ∷ l)) (λ h. omega arith) (λ h. omega arith)

pub absorbed-literals : (f : Cubes) → literals_of (absorbed f) ≤ literals_of f
absorbed-literals f = total-from length [] f

pub absorbed-length : (f : Cubes) → length (absorbed f) ≤ length f
absorbed-length f = omega (arith, total-from (λ c. 1) [] f, total-ones (absorbed f), total-ones f)

-- ---- no kept cube contains another

pub loose-in : (c d : List ℕ) → sub c d ≡ false → sub d c ≡ false → loose c d ≡ true
unfolding loose
loose-in c d h k = together (not (sub c d)) (not (sub d c)) (ap not h) (ap not k)

pub loose-out : (c d : List ℕ) → loose c d ≡ true → (sub c d ≡ false) × (sub d c ≡ false)
unfolding loose
loose-out c d h = let q = both (not (sub c d)) (not (sub d c)) h in (not-true (sub c d) q.0, not-true (sub d c) q.1)

loose-from : (e l : Cubes) → pairwise loose (absorb_from e l) ≡ true
loose-from e [] = rw (absorb-nil e)
loose-from e (c ∷ l) = let r = loose-from (c ∷ e) l in
    absorb-cases e c l (λ k. pairwise loose k ≡ true) (λ h. r) (λ h. together _ _ (all_in (loose c) (absorb_from (c ∷ e) l) (apart h)) r)
  where
    apart : dropped e c l ≡ false → (x : List ℕ) → x ∈ absorb_from (c ∷ e) l → loose c x ≡ true
    apart h x m =
        let k = kept_in (c ∷ e) l x m in
        let n : sub c x ≡ false = k.1 c (here refl) in
        let d : same x c ≡ false = refuted (λ q. clash (ap (sub c) (same-eq x c q) ∙ sub_refl c) n) in
        loose-in c x n (kept-late e c l h x k.0 d)

pub absorbed-loose : (f : Cubes) → pairwise loose (absorbed f) ≡ true
absorbed-loose f = loose-from [] f

pub absorbed-expression : (f : Cubes) → all is_cube f ≡ true → expression (absorbed f) ≡ true
absorbed-expression f h = together _ _ (absorbed-all is_cube f h) (absorbed-loose f)

-- ---- where none contains another, nothing is dropped

none_from : (e l : Cubes) → pairwise loose l ≡ true → ((d c : List ℕ) → d ∈ e → c ∈ l → loose d c ≡ true) → absorb_from e l ≡ l
none_from e [] h k = absorb-nil e
none_from e (c ∷ l) h k = absorb-cases e c l (λ x. x ≡ c ∷ l)
    (λ t. absurd (never (dropped-out e c l t)))
    (λ t. ap (c ∷◌) (none_from (c ∷ e) l (ahead loose c l h).1 later))
  where
    later : (d x : List ℕ) → d ∈ (c ∷ e) → x ∈ l → loose d x ≡ true
    later d x m n = elim (Memᴰ.cases_cons m) [ inl q ↦ rw q (all-out (loose c) n (ahead loose c l h).0) | inr i ↦ k d x i (there n) ]

    never : Other e c l ⊎ (c ∈ e) → ⊥
    never (inr m) = clash (sub_refl c) (loose-out c c (k c c m (here refl))).0
    never (inl (d, m, s, q)) = elim (Memᴰ.append_cases e m) [
      | inl i ↦ clash s (loose-out d c (k d c i (here refl))).0
      | inr i ↦ clash s (loose-out c d (all-out (loose c) i (ahead loose c l h).0)).1
    ]

loose_none : (f : Cubes) → pairwise loose f ≡ true → absorbed f ≡ f
loose_none f h = none_from [] f h (λ d c m n. absurd (Memᴰ.not-nil m))

-- ---- the walk: K are the kept ones of the cubes E that are passed, L are left

-- e contains a kept cube, or one that is left is smaller
abbrev pub Covered : Cubes → Cubes → List ℕ → Type 0
Covered K L e = ((k : List ℕ) × (k ∈ K) × (sub k e ≡ true)) ⊎ ((l : List ℕ) × (l ∈ L) × (sub l e ≡ true) × (same l e ≡ false))

pub record Passed (K E L : Cubes) : Type 0 where
  pub passed-asc : (e : List ℕ) → e ∈ E → asc e ≡ true
  pub left-asc : (l : List ℕ) → l ∈ L → asc l ≡ true
  pub cover : (e : List ℕ) → e ∈ E → Covered K L e

-- what covers a cube covers those that contain it
cover-up : {K L : Cubes} (e c : List ℕ) → ((l : List ℕ) → l ∈ L → asc l ≡ true) → asc e ≡ true → Covered K L e → sub e c ≡ true → Covered K L c
cover-up e c h k (inl (x, i, t)) s = inl (x, i, sub_trans x e c t s)
cover-up e c h k (inr (l, i, t, d)) s =
    inr (l, i, sub_trans l e c t s, refuted (λ q. clash (ap (sub e) (same-eq l c q) ∙ s) (smaller-strict l e (h l i) k t d)))

-- the first cube that is left is the smaller one, or another
first-left : {K L : Cubes} {c : List ℕ} (e : List ℕ) → Covered K (c ∷ L) e → Covered K L e ⊎ ((sub c e ≡ true) × (same c e ≡ false))
first-left e (inl r) = inl (inl r)
first-left e (inr (l, i, t, d)) = elim (Memᴰ.cases_cons i) [
  | inl q ↦ inr (ap (λ x. sub x e) (sym q) ∙ t, ap (λ x. same x e) (sym q) ∙ d)
  | inr j ↦ inl (inr (l, j, t, d))
]

module _ {K E L : Cubes} {c : List ℕ} (p : Passed K E (c ∷ L)) where
  asc-left : (l : List ℕ) → l ∈ L → asc l ≡ true
  asc-left l i = p.left-asc l (there i)

  asc-first : asc c ≡ true
  asc-first = p.left-asc c (here refl)

  asc-more : (e : List ℕ) → e ∈ (c ∷ E) → asc e ≡ true
  asc-more e m = elim (Memᴰ.cases_cons m) [ inl q ↦ rw q asc-first | inr i ↦ p.passed-asc e i ]

  -- a dropped cube is covered too
  pub cover-dropped : dropped E c L ≡ true → Covered K L c
  cover-dropped h = elim (dropped-out E c L h) [
    | inl (d, m, s, e) ↦ elim (Memᴰ.append_cases E m) [ inl i ↦ early d i s | inr i ↦ inr (d, i, s, e) ]
    | inr m ↦ early c m (sub_refl c)
  ]
    where
      early : (e : List ℕ) → e ∈ E → sub e c ≡ true → Covered K L c
      early e m s = elim (first-left e (p.cover e m)) [
        | inl r ↦ cover-up e c asc-left (p.passed-asc e m) r s
        | inr r ↦ clash s (smaller-strict c e asc-first (p.passed-asc e m) r.0 r.1)
      ]

  pub pass-dropped : dropped E c L ≡ true → Passed K (c ∷ E) L
  pass-dropped h = record {
    passed-asc = asc-more;
    left-asc = asc-left;
    cover = λ e m. elim
        (Memᴰ.cases_cons m) [ inl q ↦ rw q (cover-dropped h) | inr i ↦ old e i ];
  }
    where
      old : (e : List ℕ) → e ∈ E → Covered K L e
      old e i = elim (first-left e (p.cover e i)) [ inl r ↦ r | inr r ↦ cover-up c e asc-left asc-first (cover-dropped h) r.0 ]

  pub pass_kept : Passed (K ++ (c ∷ [])) (c ∷ E) L
  pass_kept = record {
    passed-asc = asc-more;
    left-asc = asc-left;
    cover = λ e m. elim
        (Memᴰ.cases_cons m) [ inl q ↦ itself e (rw q (sub_refl c)) | inr i ↦ old e (first-left e (p.cover e i)) ];
  }
    where
      itself : (e : List ℕ) → sub c e ≡ true → Covered (K ++ (c ∷ [])) L e
      itself e s = inl (c, Memᴰ.append_right K (here refl), s)

      old : (e : List ℕ) → Covered K L e ⊎ ((sub c e ≡ true) × (same c e ≡ false)) → Covered (K ++ (c ∷ [])) L e
      old e (inl (inl (k, i, t))) = inl (k, Memᴰ.append_left (c ∷ []) i, t)
      old e (inl (inr r)) = inr r
      old e (inr r) = itself e r.0

-- ---- each cube contains a kept one, and so the value is the same

covers-from : (K E L : Cubes) → Passed K E L → (e : List ℕ) → (e ∈ E) ⊎ (e ∈ L) → (k : List ℕ) × (k ∈ (K ++ absorb_from E L)) × (sub k e ≡ true)
covers-from K E [] p e (inl m) = elim (p.cover e m) [
  | inl (k, i, t) ↦ (k, Memᴰ.append_left (absorb_from E []) i, t)
  | inr (l, i, t, d) ↦ absurd
      (Memᴰ.not-nil i)
]
covers-from K E [] p e (inr m) = absurd (Memᴰ.not-nil m)
covers-from K E (c ∷ L) p e m = absorb-cases E c L (λ x. (k : List ℕ) × (k ∈ (K ++ x)) × (sub k e ≡ true))
    (λ h. covers-from K (c ∷ E) L (pass-dropped p h) e (shift m))
    (λ h. rw append_snoc at (covers-from (K ++ (c ∷ [])) (c ∷ E) L (pass_kept p) e (shift m)))
  where
    shift : (e ∈ E) ⊎ (e ∈ (c ∷ L)) → (e ∈ (c ∷ E)) ⊎ (e ∈ L)
    shift (inl i) = inl (there i)
    shift (inr i) = elim (Memᴰ.cases_cons i) [ inl q ↦ inl (here q) | inr j ↦ inr j ]

pub pass-none : (f : Cubes) → all asc f ≡ true → Passed [] [] f
pass-none f h = record { passed-asc = λ e m. absurd (Memᴰ.not-nil m); left-asc = λ l i. all-out asc i h; cover = λ e m. absurd (Memᴰ.not-nil m) }

pub absorbed-covers : (f : Cubes) → all asc f ≡ true → (e : List ℕ) → e ∈ f → (k : List ℕ) × (k ∈ absorbed f) × (sub k e ≡ true)
absorbed-covers f h e m = covers-from [] [] f (pass-none f h) e (inr m)

pub absorbed-value : (v : ℕ → Bool) (f : Cubes) → all asc f ≡ true → any (all v) (absorbed f) ≡ any (all v) f
absorbed-value v f h = iff
    (λ t. let r = any_out (all v) (absorbed f) t in any-in (all v) (absorbed-sub f r.0 r.1) r.2)
    (λ t. let r = any_out (all v) f t in let q = absorbed-covers f h r.0 r.1 in
    any-in (all v) q.1 (all-mem v q.0 (λ z i. mem-all v r.0 z r.2 (sub_out q.0 r.0 z q.2 i))))
