-- A divisor replaced by a literal in every use: the value is kept where the literal has the divisor's, and the cubes are an expression
-- again, in cube order. Assumes nothing.
use Prim.Native.Nat.{ℕ, ◌*◌, ◌/◌, ◌<◌}
use mathlib.Core.Path.{◌≡◌, refl, sym, ap, ◌∙◌, subst}
use mathlib.Core.Logic.{◌⊎◌, inl, inr, ◌↔◌}
use mathlib.Core.Bool.{Bool, true, false, not, ◌||◌, or-false, or-true}
use mathlib.Core.List.Memᴰ
use mathlib.Core.List.Memᴰ.{head as here}
use mathlib.Core.List.Memᴰ.{tail as there}
use mathlib.Core.List.{List, [], ◌∷◌, ◌++◌, map}
use native.Mathlib.Omega.{arith}
use lib.Dec.{eqb}
use borrow.Author.Tests.{not-true, eqb-true, eq-eqb}
use Rattle.sets.specs.Lists.{all, keep, pairwise}
use Rattle.sets.{specs.Literal.opposite_of, proofs.Lists.pairwise_append, proofs.Lists.pairwise_map}
use Rattle.sets.specs.Sets.{mem, sub, insert, without, same}
use Rattle.sets.proofs.Truth.{iff, both, together, either, decided, clash, refuted}
use Rattle.sets.proofs.Lists.{◌∈◌, any-in, any_out, all_in, keep-in, keep_out, map-in, map-out, pairwise-keep, pairwise-out, pairwise-imp}
use Rattle.sets.proofs.Sets.{mem-of, of_mem, sub_in, sub_out, insert-mem, union-mem, without-mem, insert-asc, without-asc, insert_all, union-all}
use Rattle.sets.proofs.Sets.{all-rejoin, proper-in, proper-out}
use Rattle.expression.specs.Expression.{is_cube, loose, expression, ordered}
use Rattle.expression.{specs.Value.value, proofs.Absorbing.loose-in, proofs.Absorbing.loose-out}
use Rattle.expression.proofs.Sorting.{sort-in, sort-out, pairwise-sort, sort-ordered, loose-flip, loose-differ}
use Rattle.network.specs.Meaning.{Reads}
use Rattle.extract_laws.specs.Divisor.{Divisor, pair, sum, own, sound, use_of, part, hit, gone, found, bases, swap, rewrite}
use Rattle.extract_laws.specs.Meaning.{other, InUse}
use Rattle.extract_laws.proofs.Using.{cube-asc, cube-proper, cubes-loose, sum-parts, part-asc, use-out, use-partner, hit-inside, hit-gone, gone-iff}

-- ---- the cubes of a rewriting

module _ (x : ℕ) (d : Divisor) (f : List (List ℕ)) where
  -- those of the uses, with the literal in place of the part, and those that no use takes away
  pub rewrite-in : (c : List ℕ) → c ∈ rewrite x d f → ((b : List ℕ) × (b ∈ f) × (hit d f b ≡ true) × (c ≡ swap x (part d) b)) ⊎ ((c ∈ f) × (gone d f c ≡ false))
  unfolding rewrite
  rewrite-in c m = elim (Memᴰ.append_cases (map (swap x (part d)) (found d f)) (sort-out _ m)) [
    | inl i ↦ let q = map-out (swap x (part d)) (found d f) i in let k = keep_out (hit d f) f q.1 in inl (q.0, k.0, k.1, q.2)
    | inr i ↦ let k = keep_out (λ z. not (gone d f z)) f i in inr (k.0, not-true (gone d f c) k.1)
  ]

  rewrite-new : {b : List ℕ} → b ∈ f → hit d f b ≡ true → swap x (part d) b ∈ rewrite x d f
  unfolding rewrite
  rewrite-new m h = sort-in (Memᴰ.append_left _ (map-in (swap x (part d)) (keep-in (hit d f) m h)))

  rewrite-rest : {c : List ℕ} → c ∈ f → gone d f c ≡ false → c ∈ rewrite x d f
  unfolding rewrite
  rewrite-rest m g = sort-in (Memᴰ.append_right (map (swap x (part d)) (found d f)) (keep-in (λ z. not (gone d f z)) m (ap not g)))

  -- exactly: the bases of the uses, each with the literal, and the cubes that are in no use
  pub rewrite-iff : sound d ≡ true → expression f ≡ true → (c : List ℕ) → (c ∈ rewrite x d f)
      ↔ (((z : List ℕ) × (z ∈ bases d f) × (c ≡ insert x z)) ⊎ ((c ∈ f) × (InUse d f c → ⊥)))
  unfolding swap
  rewrite-iff s e c = (
    λ m. elim (rewrite-in c m) [
      | inl (b, i, h, p) ↦ inl (without b (part d), map-in (λ z. without z (part d)) (keep-in (hit d f) i h), p)
      | inr (i, g) ↦ inr (i, λ u. clash ((gone-iff d s f e i).1 u) g)
    ],
    λ k. elim k [
      | inl (z, m, p) ↦ let q = map-out (λ y. without y (part d)) (found d f) m in let k = keep_out (hit d f) f q.1 in
          rw (p, q.2) (rewrite-new k.0 k.1)
      | inr (m, n) ↦ rewrite-rest m (refuted (λ g. n ((gone-iff d s f e m).0 g)))
    ],
  )

-- ---- the value

module _ (v : ℕ → Bool) (f : List (List ℕ)) (e : expression f ≡ true) where
  -- a use whose base is true makes the expression true where the divisor is true
  hit-value : (d : Divisor) → sound d ≡ true → {c : List ℕ} → c ∈ f → hit d f c ≡ true → all v (without c (part d)) ≡ true → value v (own d) ≡ true
      → value v f ≡ true
  hit-value (pair p q) s {c} m h b o =
      any-in (all v) m (all-rejoin c (p ∷ q ∷ []) (cube-asc f e m) (part-asc (pair p q) s) h v ∙ rw b (sym (or-false _) ∙ o))
  hit-value (sum x y) s {c} m h b o =
      let w = sum-parts x y s in
      let u = use-out x y f c h in
      elim (either (all v x) (all v y || false) o) [
        | inl k ↦ any-in (all v) m (all-rejoin c x (cube-asc f e m) w.asc-a u.inside v ∙ rw (b, k))
        | inr k ↦ any-in (all v) u.partner (union-all v (without c x) y ∙ rw b (sym (or-false _) ∙ k))
      ]

  -- a true cube that a use takes away: the divisor is true, and the base of a use
  gone-value : (d : Divisor) → sound d ≡ true → {c : List ℕ} → c ∈ f → gone d f c ≡ true → all v c ≡ true
      → (value v (own d) ≡ true) × ((b : List ℕ) × (b ∈ f) × (hit d f b ≡ true) × (all v (without b (part d)) ≡ true))
  gone-value (pair p q) s {c} m h t =
      let k = both _ _ (sym (all-rejoin c (p ∷ q ∷ []) (cube-asc f e m) (part-asc (pair p q) s) h v) ∙ t) in
      (or-false _ ∙ k.1, (c, m, h, k.0))
  gone-value (sum x y) s {c} m h t =
      let w = sum-parts x y s in
      elim (either (use_of x y f c) (use_of y x f c) h) [
        | inl g ↦
            let k = both (all v (without c x)) (all v x) (sym (all-rejoin c x (cube-asc f e m) w.asc-a (use-out x y f c g).inside v) ∙ t) in
            (rw k.1, (c, m, g, k.0))
        | inr g ↦
            let k = both (all v (without c y)) (all v y) (sym (all-rejoin c y (cube-asc f e m) w.asc-b (use-out y x f c g).inside v) ∙ t) in
            let p = use-partner y x w.asc-b w.asc-a f e m g in
            (rw (k.1, or-true), (other y x c, p.inside, p.turned, rw p.base k.0))
      ]

  -- the value is kept where the new literal has the divisor's
  pub rewrite-value : (x : ℕ) (d : Divisor) → sound d ≡ true → v x ≡ value v (own d) → value v (rewrite x d f) ≡ value v f
  unfolding swap
  rewrite-value x d s t = iff into back
    where
      into : value v (rewrite x d f) ≡ true → value v f ≡ true
      into h =
          let r = any_out (all v) (rewrite x d f) h in
          elim (rewrite-in x d f r.0 r.1) [
            | inl (b, i, k, p) ↦ let w = both _ _ (sym (insert_all v x (without b (part d))) ∙ sym (ap (all v) p) ∙ r.2) in
                hit-value d s i k w.1 (sym t ∙ w.0)
            | inr (i, g) ↦ any-in (all v) i r.2
          ]

      back : value v f ≡ true → value v (rewrite x d f) ≡ true
      back h =
          let r = any_out (all v) f h in
          elim (decided (gone d f r.0)) [
            | inl g ↦
                let q = gone-value d s r.1 g r.2 in
                any-in (all v) (rewrite-new x d f q.1.1 q.1.2) (insert_all v x (without q.1.0 (part d)) ∙ rw (t, q.0) q.1.3)
            | inr g ↦ any-in (all v) (rewrite-rest x d f r.1 g) r.2
          ]

-- ---- the new cubes

swap-out : (x : ℕ) (a c : List ℕ) (z : ℕ) → mem z (swap x a c) ≡ true → (z ≡ x) ⊎ (mem z c ≡ true)
unfolding swap
swap-out x a c z h = elim (either (eqb z x) _ (sym (insert-mem z x (without c a)) ∙ h))
    [ inl e ↦ inl (eqb-true z x e) | inr e ↦ inr (both (mem z c) _ (sym (without-mem z c a) ∙ e)).0 ]

swap_self : (x : ℕ) (a c : List ℕ) → mem x (swap x a c) ≡ true
unfolding swap
swap_self x a c = rw (insert-mem, eq-eqb x x refl)

-- where one new cube contains another, so did the old
swap-sub : (x : ℕ) (a c d : List ℕ) → sub a d ≡ true → mem x c ≡ false → sub (swap x a c) (swap x a d) ≡ true → sub c d ≡ true
unfolding swap
swap-sub x a c d i n h = sub_in c d (λ z m. elim (decided (mem z a)) [
  | inl k ↦ sub_out a d z i k
  | inr k ↦ elim (swap-out x a d z (sub_out (swap x a c) (swap x a d) z h (rw (insert-mem, without-mem, m, k, or-true))))
      [ inl e ↦ clash m (ap (λ w. mem w c) e ∙ n) | inr e ↦ e ]
])

-- an expression with no variable from k on, of which k is the new one
module _ (k : ℕ) (d : Divisor) (f : List (List ℕ)) (e : expression f ≡ true) (u : (v : ℕ) → Reads f v → v < k) where
  -- no cube has a literal of the new variable
  pub new-absent : {c : List ℕ} → c ∈ f → (z : ℕ) → z / 2 ≡ k → mem z c ≡ false
  new-absent {c} m z p = refuted (λ i. omega (arith, u (z / 2) (c, m, (z, of_mem z c i, refl))))

  swap-cube : {c : List ℕ} → c ∈ f → is_cube (swap (2 * k) (part d) c) ≡ true
  unfolding swap
  swap-cube {c} m = together _ _ (insert-asc (2 * k) (without c (part d)) (without-asc c (part d) (cube-asc f e m)))
      (proper-in (swap (2 * k) (part d) c) (λ z i. refuted (λ o. go z (swap-out (2 * k) (part d) c z i) (swap-out (2 * k) (part d) c (opposite_of z) o))))
    where
      go : (z : ℕ) → (z ≡ 2 * k) ⊎ (mem z c ≡ true) → (opposite_of z ≡ 2 * k) ⊎ (mem (opposite_of z) c ≡ true) → ⊥
      go z (inl p) (inl q) = omega arith
      go z (inl p) (inr q) = clash q (new-absent m (opposite_of z) (omega arith))
      go z (inr p) (inl q) = clash p (new-absent m z (omega arith))
      go z (inr p) (inr q) = clash q (proper-out c z (cube-proper f e m) p)

  plain : (2 * k) / 2 ≡ k
  plain = omega arith

  cross : (c h : List ℕ) → c ∈ f → hit d f c ≡ true → h ∈ f → gone d f h ≡ false → loose (swap (2 * k) (part d) c) h ≡ true
  cross c h m i n o = elim (pairwise-out loose loose-flip (cubes-loose f e) m n) [
    | inl w ↦ clash (hit-gone d f c i) (ap (gone d f) w ∙ o)
    | inr w ↦ loose-in (swap (2 * k) (part d) c) h
        (refuted (λ t. clash (sub_out (swap (2 * k) (part d) c) h (2 * k) t (swap_self (2 * k) (part d) c)) (new-absent n (2 * k) plain)))
        (refuted (λ t. clash (sub_in h c (λ z j. elim (swap-out (2 * k) (part d) c z (sub_out h (swap (2 * k) (part d) c) z t j))
        [ inl p ↦ clash j (ap (λ y. mem y h) p ∙ new-absent n (2 * k) plain) | inr p ↦ p ])) (loose-out c h w).1))
  ]

  new : List (List ℕ)
  new = map (swap (2 * k) (part d)) (found d f)

  rest : List (List ℕ)
  rest = keep (λ c. not (gone d f c)) f

  -- no new cube contains another or a kept one, and is in none
  spread : pairwise loose (new ++ rest) ≡ true
  unfolding new rest
  spread = pairwise_append loose new rest
      (pairwise_map loose loose (swap (2 * k) (part d)) (found d f) (λ c h m n l.
      let p = keep_out (hit d f) f m in
      let q = keep_out (hit d f) f n in
      let w = loose-out c h l in
      loose-in (swap (2 * k) (part d) c) (swap (2 * k) (part d) h)
      (refuted (λ t. clash (swap-sub (2 * k) (part d) c h (hit-inside d f h q.1) (new-absent p.0 (2 * k) plain) t) w.0))
      (refuted (λ t. clash (swap-sub (2 * k) (part d) h c (hit-inside d f c p.1) (new-absent q.0 (2 * k) plain) t) w.1)))
      (pairwise-keep loose (hit d f) f (cubes-loose f e)))
      (pairwise-keep loose (λ c. not (gone d f c)) f (cubes-loose f e))
      (λ c h m n.
      let q = map-out (swap (2 * k) (part d)) (found d f) m in
      let p = keep_out (hit d f) f q.1 in
      let o = keep_out (λ z. not (gone d f z)) f n in
      rw q.2 (cross q.0 h p.0 p.1 o.0 (not-true (gone d f h) o.1)))

  -- an expression again
  pub rewrite-expression : expression (rewrite (2 * k) d f) ≡ true
  unfolding rewrite new rest
  rewrite-expression = together _ _
      (all_in is_cube (rewrite (2 * k) d f) (λ c m. elim (rewrite-in (2 * k) d f c m)
      [ inl (b, i, h, p) ↦ rw p (swap-cube i) | inr (i, g) ↦ together _ _ (cube-asc f e i) (cube-proper f e i) ]))
      (pairwise-sort loose loose-flip (new ++ rest) spread)

  -- in cube order
  pub rewrite-ordered : ordered (rewrite (2 * k) d f) ≡ true
  unfolding rewrite new rest
  rewrite-ordered = sort-ordered (new ++ rest) (pairwise-imp loose (λ c h. not (same c h)) (new ++ rest) loose-differ spread)

-- ---- what is read

read : {f : List (List ℕ)} {c : List ℕ} → c ∈ f → (l : ℕ) → mem l c ≡ true → Reads f (l / 2)
read {f} {c} m l k = (c, m, (l, of_mem l c k, refl))

-- a use reads all that the divisor reads
pub own-reads : (d : Divisor) (f : List (List ℕ)) (c : List ℕ) → c ∈ f → hit d f c ≡ true → (v : ℕ) → Reads (own d) v → Reads f v
own-reads (pair p q) f c m h v (b, i, (l, j, e)) = rw e (read m l (sub_out (p ∷ q ∷ []) c l h (mem-of (subst (l ∈◌) (Memᴰ.eq_of_singleton i) j))))
own-reads (sum a b) f c m h v (g, here p, (l, j, e)) = rw e (read m l (sub_out a c l (use-out a b f c h).inside (mem-of (subst (l ∈◌) p j))))
own-reads (sum a b) f c m h v (g, there i, (l, j, e)) =
    rw e (read (use-out a b f c h).partner l (rw (union-mem, mem-of (subst (l ∈◌) (Memᴰ.eq_of_singleton i) j), or-true)))

-- a rewriting reads the new variable, where there is a use, and what was read before
pub rewrite-reads : (x : ℕ) (d : Divisor) (f : List (List ℕ)) (v : ℕ) → Reads (rewrite x d f) v
    → ((v ≡ x / 2) × ((c : List ℕ) × (c ∈ f) × (hit d f c ≡ true))) ⊎ Reads f v
rewrite-reads x d f v (c, m, (l, j, e)) = elim (rewrite-in x d f c m) [
  | inl (b, i, h, p) ↦ elim (swap-out x (part d) b l (mem-of (subst (l ∈◌) p j))) [ inl w ↦ inl (e ∙ ap (◌/ 2) w, (b, i, h)) | inr w ↦ inr (rw e (read i l w)) ]
  | inr (i, g) ↦ inr (c, i, (l, j, e))
]
