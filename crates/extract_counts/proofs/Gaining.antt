-- In a node in cube order the gains by key are those that the weight counts: keys tell divisors apart, and two cubes that make a sum are a use of it.
-- Assumes nothing.
use Prim.Native.Nat.{ℕ, ◌+◌, ◌*◌, ◌-◌, ◌<◌}
use mathlib.Core.Path.{◌≡◌, refl, sym, ap, ◌∙◌, subst}
use mathlib.Core.Logic.{◌⊎◌, inl, inr}
use mathlib.Core.Bool.{Bool, true, false, cond, not, ◌&&◌, and_comm}
use mathlib.Core.List.Memᴰ
use mathlib.Core.List.Memᴰ.{head as here}
use mathlib.Core.List.Memᴰ.{tail as there}
use mathlib.Core.List.{List, [], ◌∷◌, ◌++◌, map, Memᴰ}
use native.Mathlib.Omega.{arith}
use lib.Dec.{eqb, ltb}
use lib.ListN.{length}
use borrow.Author.Tests.{eqb-true, eq-eqb, ne_eqb, lt-ltb, ltb-true, ltb-false}
use Rattle.sets.specs.Lists.{all, keep, total, pairwise}
use Rattle.sets.specs.Sets.{mem, sub, asc, without, meet, same, before}
use Rattle.sets.proofs.Truth.{both, decided, clash, refuted}
use Rattle.sets.proofs.Lists.{◌∈◌, all-out, map-out, ahead, pairwise_append, pairwise_map, total-cong, total-sum, total-const, total-map}
use Rattle.sets.proofs.Sets.{mem-of, of_mem, all-mem, sub_out, without-mem, without-asc, without_sub, meet-mem, meet-asc, ext, same-eq, same_self}
use Rattle.sets.proofs.Orders.{before-order, asym}
use Rattle.cube.specs.Cube.{width}
use Rattle.expression.specs.Expression.{ordered}
use Rattle.extract_laws.specs.Divisor.{Divisor, pair, sum, small, use_of, uses}
use Rattle.extract_laws.specs.Extract.{gather, pairs_in, smaller_first, sum_of, sums_in, sooner}
use Rattle.extract_laws.specs.{Meaning.Parts, Meaning.other, Meaning.ComesFirst.first_literal, Meaning.ComesFirst.second_literal}
use Rattle.extract_laws.proofs.{Using.sum-parts, Using.use-out, Choosing.sooner-order, Choosing.sooner-iff}
use Rattle.extract_laws.proofs.Parting.{parts-apart, parts-differ, parts-use, use-left, use-right}
use Rattle.extract_laws.proofs.Offering.{gather-in, gather-out, pairs-out, pairs_made, sums-out, sum-of-out}
use Rattle.extract_keys.specs.Keys.{Plain, key_of, cost}
use Rattle.extract_counts.specs.Counts.{gain_in, pairs_gain, two_gain, row_gain, node_gain}

-- ---- totals with one term, or none

module _ {A : Type 0} where
  total-zero : (g : A → ℕ) (l : List A) → ((x : A) → x ∈ l → g x ≡ 0) → total g l ≡ 0
  total-zero g [] h = refl
  total-zero g (x ∷ l) h = omega (arith, h x (here refl), total-zero g l (λ y m. h y (there m)))

  -- no element is in the list twice, and the others add nothing
  total-only : (r : A → A → Bool) → ((x : A) → r x x ≡ false) → (g : A → ℕ) {x : A} {l : List A} → x ∈ l → pairwise r l ≡ true
      → ((y : A) → y ∈ l → (y ≡ x → ⊥) → g y ≡ 0) → total g l ≡ g x
  total-only r self g (here {x = y} {xs = l} e) h k =
      let z = total-zero g l (λ w m. k w (there m) (λ p. clash (all-out (r y) m (ahead r y l h).0) (ap (r y) (p ∙ e) ∙ self y))) in
      omega (arith, ap g e)
  total-only r self g (there {x = y} {xs = l} m) h k = omega (
    arith,
    k y (here refl) (λ p. clash (all-out (r y) m (ahead r y l h).0) (ap (r y) (sym p) ∙ self y)),
    total-only r self g m (ahead r y l h).1 (λ w n. k w (there n)),
  )

  -- a total that is not 0 has a term that is not
  pub total-some : (g : A → ℕ) (l : List A) → 0 < total g l → (x : A) × (x ∈ l) × (0 < g x)
  total-some g [] h = absurd (omega arith)
  total-some g (x ∷ l) h = elim (decided (ltb 0 (g x))) [
    | inl t ↦ (x, here refl, ltb-true 0 (g x) t)
    | inr t ↦ let r = total-some g l (omega (arith, ltb-false 0 (g x) t)) in (r.0, there r.1, r.2)
  ]

  total-cond : (p : A → Bool) (g : A → ℕ) (l : List A) → total (λ x. cond (p x) (g x) 0) l ≡ total g (keep p l)
  total-cond p g [] = refl
  total-cond p g (x ∷ l) =
      elim (p x) as (λ b. cond b (g x) 0 + total (λ y. cond (p y) (g y) 0) l ≡ total g (cond b (x ∷ keep p l) (keep p l)))
      [ true ↦ omega (arith, total-cond p g l) | false ↦ omega (arith, total-cond p g l) ]

-- what a test keeps out counts nothing
cond-some : (b : Bool) (n : ℕ) → 0 < cond b n 0 → b ≡ true
cond-some true n h = refl
cond-some false n h = absurd (omega arith)

-- ---- the divisors that cubes make are plain

-- literals ascend, and are those that a cube can have
record Narrow (c : List ℕ) : Type 0 where
  ascends : asc c ≡ true
  below : (l : ℕ) → mem l c ≡ true → l < 2 * width

narrow-in : (c : List ℕ) → Narrow c → (a : List ℕ) → sub a c ≡ true → all (λ l. ltb l (2 * width)) a ≡ true
narrow-in c n a s = all-mem (λ l. ltb l (2 * width)) a (λ z m. lt-ltb z (2 * width) (n.below z (sub_out a c z s m)))

pairs-plain : (c : List ℕ) → Narrow c → (d : Divisor) → d ∈ pairs_in c → Plain d
pairs-plain c n d m =
    let (p, q, e, i, j, l) = pairs-out c n.ascends d m in
    subst Plain (sym e) (record {
      whole = lt-ltb p q l;
      inside = rw (lt-ltb p (2 * width) (n.below p (mem-of i)), lt-ltb q (2 * width) (n.below q (mem-of j)));
    })

-- the parts in either order, if it is the cube order
sum-plain : (c e : List ℕ) → Narrow c → Narrow e → small (without c e) ≡ true → small (without e c) ≡ true
    → before (without c e) (without e c) ≡ true → Plain (sum (without c e) (without e c))
sum-plain c e n m s t o = record {
  whole = rw (without-asc c e n.ascends, without-asc e c m.ascends, parts-apart c e, s, t) o;
  inside = rw (narrow-in c n (without c e) (without_sub c e), narrow-in e m (without e c) (without_sub e c));
}

sums-plain : (c e : List ℕ) → Narrow c → Narrow e → (d : Divisor) → d ∈ sum_of c e → Plain d
sums-plain c e n m d i =
    let (s, t, o) = sum-of-out c e d i in
    elim o [
      | inl (p, l) ↦ subst Plain (sym p) (sum-plain c e n m s t l)
      | inr (p, l) ↦ subst Plain (sym p) (sum-plain e c m n t s (elim (decided (before (without e c) (without c e))) [
        | inl q ↦ q
        | inr q ↦ absurd (parts-differ (without c e) (without e c) s (parts-apart c e) (before-order.linear (without c e) (without e c) l q))
      ]))
    ]

-- ---- a node's cubes

module _ (f : List (List ℕ)) (h : all asc f ≡ true) (k : (c : List ℕ) → Memᴰ c f → (l : ℕ) → mem l c ≡ true → l < 2 * width) where
  cube-narrow : {c : List ℕ} → c ∈ f → Narrow c
  cube-narrow {c} m = record { ascends = all-out asc m h; below = k c m }

  -- what a node makes is plain
  pub made_plain : (d : Divisor) → d ∈ (gather pairs_in f ++ sums_in f) → Plain d
  made_plain d m = elim (Memᴰ.append_cases (gather pairs_in f) m) [
    | inl i ↦ let (c, j, p) = gather-out pairs_in f i in pairs-plain c (cube-narrow j) d p
    | inr i ↦ let (c, e, j, l, p) = sums-out f d i in sums-plain c e (cube-narrow j) (cube-narrow l) d p
  ]

-- a key with a gain is that of a divisor which the node makes
key-made : (f : List (List ℕ)) (k : ℕ) → 0 < node_gain k f → (d : Divisor) × (key_of d ≡ k) × (d ∈ gather pairs_in f ⊎ d ∈ sums_in f)
unfolding node_gain pairs_gain row_gain two_gain sums_in
key-made [] k h = absurd (omega arith)
key-made (c ∷ f) k h = elim (decided (ltb 0 (pairs_gain k c))) [
  | inl t ↦
      let (d, i, p) = total-some (λ d. cond (eqb k (key_of d)) 1 0) (pairs_in c) (ltb-true 0 (pairs_gain k c) t) in
      (d, sym (eqb-true k (key_of d) (cond-some _ 1 p)), inl (Memᴰ.append_left (gather pairs_in f) i))
  | inr t ↦ elim (decided (ltb 0 (row_gain k c f))) [
    | inl u ↦
        let (e, j, q) = total-some (two_gain k c) f (ltb-true 0 (row_gain k c f) u) in
        let (d, i, p) = total-some (λ d. cond (eqb k (key_of d)) (length (meet c e) + (cost d - 1)) 0) (sum_of c e) q in
        (d, sym (eqb-true k (key_of d) (cond-some _ _ p)), inr (Memᴰ.append_left (sums_in f) (gather-in (sum_of c) j i)))
    | inr u ↦
        let (d, e, o) = key-made f k (omega (arith, ltb-false 0 (pairs_gain k c) t, ltb-false 0 (row_gain k c f) u)) in
        (d, e, elim o [ inl i ↦ inl (Memᴰ.append_right (pairs_in c) i) | inr i ↦ inr (Memᴰ.append_right (gather (sum_of c) f) i) ])
  ]
]

-- a key that has a gain in a node is that of a plain divisor which the node makes
pub node_made : (f : List (List ℕ)) → all asc f ≡ true → ((c : List ℕ) → Memᴰ c f → (l : ℕ) → mem l c ≡ true → l < 2 * width)
    → (k : ℕ) → 0 < node_gain k f → (d : Divisor) × Plain d × (key_of d ≡ k) × Memᴰ d (gather pairs_in f ++ sums_in f)
node_made f h b k g =
    let (d, e, o) = key-made f k g in
    let m : d ∈ (gather pairs_in f ++ sums_in f) = elim o [ inl i ↦ Memᴰ.append_left (sums_in f) i | inr i ↦ Memᴰ.append_right (gather pairs_in f) i ] in
    (d, made_plain f h b d m, e, m)

-- ---- a cube alone

-- each pair of literals is listed once
pairs-once : (c : List ℕ) → asc c ≡ true → pairwise sooner (pairs_in c) ≡ true
unfolding pairs_in
pairs-once [] h = refl
pairs-once (x ∷ c) h =
    let (low, rest) = ahead ltb x c h in
    pairwise_append sooner (map (pair x) c) (pairs_in c)
    (pairwise_map ltb sooner (pair x) c (λ y z i j l. (sooner-iff (pair x y) (pair x z)).1 (second_literal refl (ltb-true y z l))) rest)
    (pairs-once c rest)
    (λ d e i j.
    let (y, m, p) = map-out (pair x) c i in
    let (u, v, q, n, o, l) = pairs-out c rest e j in
    rw (p, q) ((sooner-iff (pair x y) (pair u v)).1 (first_literal (ltb-true x u (all-out (ltb x) n low)))))

pair-out : (p q : ℕ) (c : List ℕ) → asc c ≡ true → pair p q ∈ pairs_in c → sub (p ∷ q ∷ []) c ≡ true
unfolding sub
pair-out p q c h m =
    let (x, y, e, i, j, l) = pairs-out c h (pair p q) m in
    let u : p ≡ x = cc in
    let v : q ≡ y = cc in
    rw (mem-of (Memᴰ.cast u i), mem-of (Memᴰ.cast v j))

-- no pair is a sum
pair-sum : {p q : ℕ} {a b : List ℕ} → pair p q ≡ sum a b → ⊥
pair-sum e = let z : ◌≡◌ {A = ℕ} 0 1 = cc in omega arith

-- ---- two cubes

-- the sum of c and e has the parts a and b, c having a
abbrev fits : List ℕ → List ℕ → List ℕ → List ℕ → Bool
fits a b c e = same (without c e) a && same (without e c) b

-- one less than the literals of both parts
abbrev spare : List ℕ → List ℕ → ℕ
spare a b = (length a + length b) - 1

-- what the sum gains, where they fit
abbrev worth : List ℕ → List ℕ → List ℕ → List ℕ → ℕ
worth a b c e = cond (fits a b c e) (length (meet c e) + spare a b) 0

fits_out : (a b c e : List ℕ) → fits a b c e ≡ true → (without c e ≡ a) × (without e c ≡ b)
fits_out a b c e h = let q = both (same (without c e) a) (same (without e c) b) h in (same-eq (without c e) a q.0, same-eq (without e c) b q.1)

fits_in : (a b c e : List ℕ) → without c e ≡ a → without e c ≡ b → fits a b c e ≡ true
fits_in a b c e p q = rw (p, q, same_self a, same_self b)

common : (p q : Bool) → (p && q) ≡ (p && not (p && not q))
common true true = refl
common true false = refl
common false q = refl

-- the common literals are what c has beside its part
meet-less : (c e : List ℕ) → asc c ≡ true → meet c e ≡ without c (without c e)
meet-less c e h = ext (meet c e) (without c (without c e)) (meet-asc c e h) (without-asc c (without c e) h)
    (λ z. simp (meet-mem, without-mem) (common (mem z c) (mem z e)))

meet-turn : (c e : List ℕ) → asc c ≡ true → asc e ≡ true → meet c e ≡ meet e c
meet-turn c e h k = ext (meet c e) (meet e c) (meet-asc c e h) (meet-asc e c k) (λ z. simp meet-mem (and_comm (mem z c) (mem z e)))

-- two cubes that make a sum are a use of it
fits-use : (a b : List ℕ) (f : List (List ℕ)) (c e : List ℕ) → asc e ≡ true → e ∈ f → fits a b c e ≡ true → use_of a b f c ≡ true
fits-use a b f c e h m t = let (p, q) = fits_out a b c e t in rw (p, q) at (parts-use c e h f m)

-- so c has one partner only
fits-other : (a b c e : List ℕ) → asc e ≡ true → fits a b c e ≡ true → other a b c ≡ e
fits-other a b c e h t = Memᴰ.eq_of_singleton (use-out a b (e ∷ []) c (fits-use a b (e ∷ []) c e h (here refl) t)).partner

-- the sum of two cubes has the parts of the one and the other, either way
sum_fits : (a b c e : List ℕ) → sum a b ∈ sum_of c e → (fits a b c e ≡ true) ⊎ (fits a b e c ≡ true)
sum_fits a b c e m = elim (sum-of-out c e (sum a b) m).2
    [ inl (p, o) ↦ inl (fits_in a b c e (cc) (cc)) | inr (p, o) ↦ inr (fits_in a b e c (cc) (cc)) ]

module _ (a b : List ℕ) (w : Parts a b) where
  -- not both ways
  fits-one-way : (c e : List ℕ) → fits a b c e ≡ true → fits a b e c ≡ false
  fits-one-way c e t = refuted (λ u.
      parts-differ a b w.small-a w.disjoint (sym (fits_out a b c e t).0 ∙ (fits_out a b e c u).1))

  -- the sum of a use, found from either cube
  fits_sum : (c e : List ℕ) → fits a b c e ≡ true → (sum_of c e ≡ sum a b ∷ []) × (sum_of e c ≡ sum a b ∷ [])
  unfolding sum_of smaller_first
  fits_sum c e t =
      let (p, q) = fits_out a b c e t in
      (rw (p, q, w.small-a, w.small_b, w.ordered), rw (p, q, w.small-a, w.small_b, asym before before-order a b w.ordered))

  -- what the uses of the sum in one cube of a node are worth
  module _ (f : List (List ℕ)) (o : ordered f ≡ true) (h : all asc f ≡ true) where
    use-worth : (c : List ℕ) → c ∈ f → total (worth a b c) f ≡ cond (use_of a b f c) (length (without c a) + spare a b) 0
    use-worth c m = elim (decided (use_of a b f c)) [
      | inl t ↦
          let u = use-out a b f c t in
          let p = use-left a b w f c (all-out asc m h) u in
          let q = use-right a b w f c (all-out asc m h) u in
          rw t (total-only before before-order.irrefl (worth a b c) u.partner o (λ e i n.
          rw (refuted (λ z. n (sym (fits-other a b c e (all-out asc i h) z)))))
          ∙ rw (fits_in a b c (other a b c) p q, meet-less c (other a b c) (all-out asc m h), p))
      | inr t ↦ rw t (total-zero (worth a b c) f (λ e i. rw (refuted (λ z. clash (fits-use a b f c e (all-out asc i h) i z) t))))
    ]

    -- and in all cubes
    node-worth : total (λ c. total (worth a b c) f) f ≡ gain_in (sum a b) f
    node-worth =
        total-cong (λ c. total (worth a b c) f) (λ c. cond (use_of a b f c) (length (without c a) + spare a b) 0) f use-worth
        ∙ total-cond (use_of a b f) (λ c. length (without c a) + spare a b) f
        ∙ total-const (λ c. length (without c a) + spare a b) (λ c. length (without c a)) (spare a b) (keep (use_of a b f) f)
        (λ c m. refl)
        ∙ ap (◌+ uses (sum a b) f * spare a b) (sym (total-map length (λ c. without c a) (keep (use_of a b f) f)))

-- ---- the gains by key, where keys tell plain divisors apart

module _ (one : (d e : Divisor) → Plain d → Plain e → key_of d ≡ key_of e → d ≡ e) where
  -- by the key of a divisor that is not among those of a list nothing is found in it
  none_found : (g : Divisor → ℕ) (d : Divisor) → Plain d → (l : List Divisor) → ((e : Divisor) → e ∈ l → Plain e) → (d ∈ l → ⊥)
      → total (λ e. cond (eqb (key_of d) (key_of e)) (g e) 0) l ≡ 0
  none_found g d p l q n = total-zero _ l (λ e m. rw (ne_eqb (key_of d) (key_of e) (λ k. n (Memᴰ.cast (one d e p (q e m) k) m))))

  module _ (p q : ℕ) (l : Plain (pair p q)) where
    -- a pair gains 1 in a cube that has both literals
    pair-alone : (c : List ℕ) → Narrow c → pairs_gain (key_of (pair p q)) c ≡ cond (sub (p ∷ q ∷ []) c) 1 0
    unfolding pairs_gain
    pair-alone c n = elim (decided (sub (p ∷ q ∷ []) c)) [
      | inl t ↦
          let i = of_mem p c (sub_out (p ∷ q ∷ []) c p t (mem-of (here refl))) in
          let j = of_mem q c (sub_out (p ∷ q ∷ []) c q t (mem-of (there (here refl)))) in
          rw t (total-only sooner sooner-order.irrefl (λ d. cond (eqb (key_of (pair p q)) (key_of d)) 1 0)
          (pairs_made c n.ascends i j (ltb-true p q l.whole)) (pairs-once c n.ascends)
          (λ d m k. rw (ne_eqb (key_of (pair p q)) (key_of d) (λ e. k (sym (one (pair p q) d l (pairs-plain c n d m) e)))))
          ∙ rw (eq-eqb (key_of (pair p q)) (key_of (pair p q)) refl))
      | inr t ↦ rw t (none_found (λ d. 1) (pair p q) l (pairs_in c) (pairs-plain c n) (λ m. clash (pair-out p q c n.ascends m) t))
    ]

    -- and nothing from two cubes
    pair-two : (c e : List ℕ) → Narrow c → Narrow e → two_gain (key_of (pair p q)) c e ≡ 0
    unfolding two_gain
    pair-two c e n m = none_found (λ d. length (meet c e) + (cost d - 1)) (pair p q) l (sum_of c e) (sums-plain c e n m)
        (λ i. elim (sum-of-out c e (pair p q) i).2 [ inl (x, y) ↦ pair-sum x | inr (x, y) ↦ pair-sum x ])

    pair-gain : (f : List (List ℕ)) → ((c : List ℕ) → c ∈ f → Narrow c) → node_gain (key_of (pair p q)) f ≡ uses (pair p q) f
    unfolding node_gain row_gain
    pair-gain [] n = refl
    pair-gain (c ∷ f) n =
        rw (
          pair-alone c (n c (here refl)),
          total-zero (two_gain (key_of (pair p q)) c) f (λ e m. pair-two c e (n c (here refl)) (n e (there m))),
          pair-gain f (λ e m. n e (there m)),
        )
        (let g = keep (sub (p ∷ q ∷ [])) f in elim (sub (p ∷ q ∷ []) c) as (λ t. cond t 1 0 + (0 + length g) ≡ length (cond t (c ∷ g) g))
        [ true ↦ omega arith | false ↦ omega arith ])

  module _ (a b : List ℕ) (l : Plain (sum a b)) where
    -- a sum gains nothing in a cube alone
    sum-alone : (c : List ℕ) → Narrow c → pairs_gain (key_of (sum a b)) c ≡ 0
    unfolding pairs_gain
    sum-alone c n = none_found (λ d. 1) (sum a b) l (pairs_in c) (pairs-plain c n)
        (λ i. pair-sum (sym (pairs-out c n.ascends (sum a b) i).2))

    -- and from two cubes what they are worth, either way
    sum-two : (c e : List ℕ) → Narrow c → Narrow e → two_gain (key_of (sum a b)) c e ≡ worth a b c e + worth a b e c
    unfolding two_gain
    sum-two c e n m =
        let w = sum-parts a b l.whole in
        let k = eq-eqb (key_of (sum a b)) (key_of (sum a b)) refl in
        elim (decided (fits a b c e)) [
          | inl t ↦ rw ((fits_sum a b w c e t).0, k, t, fits-one-way a b w c e t)
          | inr t ↦ elim (decided (fits a b e c)) [
            | inl u ↦ rw ((fits_sum a b w e c u).1, k, t, u, meet-turn c e n.ascends m.ascends) (omega arith)
            | inr u ↦ rw (t, u) (none_found (λ d. length (meet c e) + (cost d - 1)) (sum a b) l (sum_of c e) (sums-plain c e n m)
                (λ i. elim (sum_fits a b c e i) [ inl v ↦ clash v t | inr v ↦ clash v u ]))
          ]
        ]

    -- every two cubes, both ways
    sum-gain : (f : List (List ℕ)) → ((c : List ℕ) → c ∈ f → Narrow c) → node_gain (key_of (sum a b)) f ≡ total (λ c. total (worth a b c) f) f
    unfolding node_gain row_gain
    sum-gain [] n = refl
    sum-gain (c ∷ f) n = omega (
      arith,
      sum-alone c (n c (here refl)),
      total-sum (two_gain (key_of (sum a b)) c) (worth a b c) (λ e. worth a b e c) f (λ e m. sum-two c e (n c (here refl)) (n e (there m))),
      total-sum (λ e. worth a b e c + total (worth a b e) f) (λ e. worth a b e c) (λ e. total (worth a b e) f) f (λ e m. refl),
      sum-gain f (λ e m. n e (there m)),
      worth-self c,
    )
      where
        worth-self : (e : List ℕ) → worth a b e e ≡ 0
        worth-self e = rw (refuted (λ t. clash t (fits-one-way a b (sum-parts a b l.whole) e e t)))

  -- in a node in cube order the gains by key are those that the weight counts
  pub node-gain : (f : List (List ℕ)) → ordered f ≡ true → all asc f ≡ true
      → ((c : List ℕ) → Memᴰ c f → (l : ℕ) → mem l c ≡ true → l < 2 * width) → (d : Divisor) → Plain d → node_gain (key_of d) f ≡ gain_in d f
  node-gain f o h k (pair p q) l = pair-gain p q l f (λ c m. cube-narrow f h k m)
  node-gain f o h k (sum a b) l = sum-gain a b l f (λ c m. cube-narrow f h k m) ∙ node-worth a b (sum-parts a b l.whole) f o h
