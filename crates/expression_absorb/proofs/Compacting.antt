-- Absorption in place: what stands while the cubes are passed one by one, and the scan for a cube that the present one contains. Assumes nothing.
use Prim.Native.Nat.{ℕ, ◌+◌, ◌-◌, ◌<◌, ◌≤◌}
use mathlib.Core.Path.{◌≡◌, refl, sym, ◌∙◌, ap, subst}
use mathlib.Core.List.Memᴰ
use mathlib.Core.{Logic.inl, Logic.inr}
use mathlib.Core.Bool.{Bool, true, false, not, ◌&&◌, ◌||◌}
use mathlib.Core.List.Memᴰ.{head as here}
use mathlib.Core.List.Memᴰ.{tail as there}
use mathlib.Core.List.{List, [], ◌∷◌, ◌++◌, append-nil}
use native.Mathlib.Numerals.{add-one}
use native.Mathlib.Omega.{arith}
use lib.Dec.{ltb}
use lib.ListN.{length, get_or, take, drop, set, length-drop, length-set, take-append-drop, drop_of_length-le}
use lib.Seq.{length-take-le, take-suc, take-suc-set, take-set-lt, drop-set-lt, drop-drop, get_or-take, get_or-drop, append_snoc}
use borrow.Author.Tests.{ltb-true, ltb-false, lt-ltb, not-true}
use Rattle.sets.{specs.Lists.all, proofs.Lists.◌∈◌, proofs.Sets.eq-same}
use Rattle.sets.specs.Sets.{sub, asc, same}
use Rattle.sets.proofs.Truth.{both, together, or_left, or_right, decided, clash, refuted}
use Rattle.expression.specs.Expression.{dropped, absorb_from, absorbed}
use Rattle.sets.proofs.Places.{at_in, in-at, set-in, drop-next}
use Rattle.expression.proofs.Absorbing.{Cubes, Covered, Passed, pass-none, pass-dropped, pass_kept, cover-dropped, dropped-early, dropped-late}
use Rattle.expression.proofs.Absorbing.{absorb-nil, absorb-dropped, absorb-kept}

-- of the cubes f the first i are passed, and g now stands there: at its front the kept ones of those passed, from their number on what was there
pub record Stands (f g : Cubes) (i kept : ℕ) : Type 0 where
  pub earlier : Cubes
  pub passed : Passed (take kept g) earlier (drop i f)
  pub sum : take kept g ++ absorb_from earlier (drop i f) ≡ absorbed f
  pub known : (x : List ℕ) → x ∈ take i g → x ∈ earlier
  pub past : drop kept g ≡ drop kept f
  pub whole : length g ≡ length f
  pub order : kept ≤ i
  pub inside : i ≤ length f

pub stands-first : (f : Cubes) → all asc f ≡ true → Stands f f 0 0
stands-first f h = record {
  earlier = [];
  passed = pass-none f h;
  sum = refl;
  known = λ x m. m;
  past = refl;
  whole = refl;
  order = omega arith;
  inside = omega arith;
}

-- where all are passed, the kept ones are those that absorption leaves
module _ {f g : Cubes} {i kept : ℕ} (t : Stands f g i kept) (h : length f ≤ i) where
  kept-all : take kept g ≡ absorbed f
  kept-all =
      sym (append-nil (take kept g))
      ∙ sym (ap (λ l. take kept g ++ l) (ap (absorb_from t.earlier) (drop_of_length-le f h) ∙ absorb-nil t.earlier)) ∙ t.sum

  pub stands-number : kept ≡ length (absorbed f)
  stands-number = sym (length-take-le kept g (omega (arith, t))) ∙ ap length kept-all

  pub stands-end : g ≡ absorbed f ++ drop (length (absorbed f)) f
  stands-end = sym (take-append-drop kept g) ∙ rw (kept-all, t.past, ← stands-number)

-- the cube at place i, and those after it
module _ {f g : Cubes} {i kept : ℕ} (t : Stands f g i kept) (h : i < length f) where
  abbrev c : List ℕ
  c = get_or f i []

  abbrev later : Cubes
  later = drop (i + 1) f

  -- from the number of the kept ones on, what was there
  stands_at : (j : ℕ) → kept ≤ j → get_or g j [] ≡ get_or f j []
  stands_at j k =
      let e : kept + (j - kept) ≡ j = omega arith in
      ap (λ n. get_or g n []) (sym e) ∙ sym (get_or-drop kept g (j - kept) []) ∙ ap (λ l. get_or l (j - kept) []) t.past
      ∙ get_or-drop kept f (j - kept) [] ∙ ap (λ n. get_or f n []) e

  ready : Passed (take kept g) t.earlier (c ∷ later)
  ready = subst (λ l. Passed (take kept g) t.earlier l) (drop-next f i [] h) t.passed

  sum-next : take kept g ++ absorb_from t.earlier (c ∷ later) ≡ absorbed f
  sum-next = ap (λ l. take kept g ++ absorb_from t.earlier l) (sym (drop-next f i [] h)) ∙ t.sum

  known_next : (x : List ℕ) → x ∈ take (i + 1) g → x ∈ (c ∷ t.earlier)
  known_next x m = elim (Memᴰ.append_cases (take i g) (rw (add-one i, take-suc g i [] (omega (arith, t))) at m)) [
    | inl k ↦ there (t.known x k)
    | inr k ↦ here (Memᴰ.eq_of_singleton k ∙ stands_at i t.order)
  ]

  -- ---- one cube passed

  stands-dropped : dropped t.earlier c later ≡ true → Stands f g (i + 1) kept
  stands-dropped d = record {
    earlier = c ∷ t.earlier;
    passed = pass-dropped ready d;
    sum = ap (λ l. take kept g ++ l) (sym (absorb-dropped t.earlier c later d)) ∙ sum-next;
    known = known_next;
    past = t.past;
    whole = t.whole;
    order = omega (arith, t.order);
    inside = omega arith;
  }

  front : take (kept + 1) (set g kept c) ≡ take kept g ++ (c ∷ [])
  front = rw (add-one kept) (take-suc-set g kept c (omega (arith, t)))

  stands-kept : dropped t.earlier c later ≡ false → Stands f (set g kept c) (i + 1) (kept + 1)
  stands-kept d = record {
    earlier = c ∷ t.earlier;
    passed = rw front (pass_kept ready);
    sum = rw (front, append_snoc) (ap (λ l. take kept g ++ l) (sym (absorb-kept t.earlier c later d)) ∙ sum-next);
    known = λ x m. elim (set-in (take (i + 1) g) kept c (rw (take-set-lt (i + 1) g kept c (omega (arith, t.order))) at m))
        [ inl q ↦ here q | inr k ↦ known_next x k ];
    past = drop-set-lt (kept + 1) g kept c (omega arith) ∙ sym (drop-drop 1 kept g) ∙ ap (drop 1) t.past ∙ drop-drop 1 kept f;
    whole = length-set g kept c ∙ t.whole;
    order = omega (arith, t.order);
    inside = omega arith;
  }

  -- ---- the scan

  -- what is asked of the cube at place j
  abbrev drops : ℕ → Bool
  drops j = sub (get_or g j []) c && (ltb j i || not (same (get_or g j []) c))

  scan-found : (j : ℕ) → j < length f → drops j ≡ true → dropped t.earlier c later ≡ true
  scan-found j b e = go (both (sub (get_or g j []) c) (ltb j i || not (same (get_or g j []) c)) e)
    where
      early : ltb j i ≡ true → get_or g j [] ∈ take i g
      early k =
          let n : length (take i g) ≡ i = length-take-le i g (omega (arith, t)) in
          let l : j < i = ltb-true j i k in
          Memᴰ.cast (sym (get_or-take i g j [] l)) (at_in (take i g) j [] (omega arith))

      late : i ≤ j → sub (get_or g j []) c ≡ true → same (get_or g j []) c ≡ false → dropped t.earlier c later ≡ true
      late k s d =
          let a : get_or g j [] ≡ get_or f j [] = stands_at j (omega (arith, t.order)) in
          let u : j ≡ i → ⊥ = λ q. clash (eq-same (get_or g j []) c (a ∙ ap (λ n. get_or f n []) q)) d in
          let v : i + 1 + (j - (i + 1)) ≡ j = omega arith in
          let w : length later ≡ length f - (i + 1) = length-drop (i + 1) f in
          dropped-late t.earlier c later
          (Memᴰ.cast (a ∙ sym (get_or-drop (i + 1) f (j - (i + 1)) [] ∙ ap (λ n. get_or f n []) v)) (at_in later (j - (i + 1)) [] (omega arith))) s d

      go : (sub (get_or g j []) c ≡ true) × ((ltb j i || not (same (get_or g j []) c)) ≡ true) → dropped t.earlier c later ≡ true
      go (s, k) = elim (decided (ltb j i)) [
        | inl l ↦ dropped-early t.earlier c later (t.known (get_or g j []) (early l)) s
        | inr l ↦ late (ltb-false j i l) s (not-true (same (get_or g j []) c) (rw l at k))
      ]

  scan-none : ((j : ℕ) → j < length f → drops j ≡ false) → dropped t.earlier c later ≡ false
  scan-none none = refuted (λ d. go (cover-dropped ready d))
    where
      passes : (j : ℕ) (d : List ℕ) → get_or g j [] ≡ d → sub d c ≡ true → (ltb j i || not (same d c)) ≡ true → drops j ≡ true
      passes j d e s k = rw e (together _ _ s k)

      go : Covered (take kept g) later c → ⊥
      go (inl (k, m, s)) =
          let r = in-at [] m in
          let n : length (take kept g) ≡ kept = length-take-le kept g (omega (arith, t)) in
          let l : r.0 < i = omega (arith, t.order, r.1) in
          clash (passes r.0 k (sym (get_or-take kept g r.0 [] (omega (arith, r.1))) ∙ r.2) s (or_left _ _ (lt-ltb r.0 i l)))
          (none r.0 (omega arith))
      go (inr (l, m, s, e)) =
          let r = in-at [] m in
          let j = i + 1 + r.0 in
          let w : length later ≡ length f - (i + 1) = length-drop (i + 1) f in
          clash (passes j l (stands_at j (omega (arith, t.order)) ∙ sym (get_or-drop (i + 1) f r.0 []) ∙ r.2) s (or_right (ltb j i) _ (ap not e)))
          (none j (omega (arith, r.1)))

  -- the turn, where x is the cube at place i: some cube that is found, or none, tells whether it is kept
  module _ (x : List ℕ) (a : x ≡ get_or g i []) where
    present : x ≡ c
    present = a ∙ stands_at i t.order

    pub turn-dropped : (j : ℕ) (d : List ℕ) → j < length f → d ≡ get_or g j [] → (sub d x && (ltb j i || not (same d x))) ≡ true → Stands f g (i + 1) kept
    turn-dropped j d b e u = stands-dropped (scan-found j b (rw (present, e) at u))

    pub turn-kept : ((j : ℕ) → j < length f → (sub (get_or g j []) x && (ltb j i || not (same (get_or g j []) x))) ≡ false)
        → Stands f (set g kept x) (i + 1) (kept + 1)
    turn-kept n = rw present (stands-kept (scan-none (λ j b. rw present at (n j b))))
