-- The uses of a divisor in an expression: the two cubes of each use of a sum, its bases, each once, and that uses never share a cube. Assumes nothing.
use Prim.Native.Nat.{ℕ}
use mathlib.Core.Path.{◌≡◌, refl, sym, ap, ◌∙◌, subst}
use mathlib.Core.Logic.{◌⊎◌, inl, inr, ◌↔◌}
use mathlib.Core.Bool.{true, false, not, ◌&&◌, or-true, false≢true}
use mathlib.Core.List.Memᴰ
use mathlib.Core.List.Memᴰ.{head as here}
use mathlib.Core.List.{List, [], ◌∷◌}
use borrow.Author.Tests.{not-true}
use Rattle.sets.specs.Lists.{all, pairwise}
use Rattle.sets.specs.Sets.{mem, sub, apart, asc, proper, union, without, same, before}
use Rattle.sets.proofs.Truth.{both, either, decided, clash, refuted}
use Rattle.sets.proofs.Lists.{◌∈◌, all-out, keep-in, keep_out, map-in, map-out, pairwise-imp, pairwise-keep, pairwise_map}
use Rattle.sets.proofs.Sets.{mem-of, sub_out, apart_in, apart_out, union-mem, union_right, without-mem, without-asc, without-apart, rejoin, unjoin}
use Rattle.sets.proofs.Sets.{same-eq, eq-same}
use Rattle.expression.specs.Expression.{is_cube, loose, expression, has}
use Rattle.expression.proofs.{Members.has_in, Members.has-out, Sorting.loose-differ}
use Rattle.extract_laws.specs.Divisor.{Divisor, pair, sum, small, sound, use_of, part, hit, gone, found, bases}
use Rattle.extract_laws.specs.Meaning.{Parts, other, Use, Partner, Base, InUse}

-- ---- what an expression's cubes are

module _ (f : List (List ℕ)) (e : expression f ≡ true) where
  -- literals ascend, no variable is both ways, none contains another, and so no two are equal
  pub cube-asc : {c : List ℕ} → c ∈ f → asc c ≡ true
  cube-asc {c} m = (both (asc c) (proper c) (all-out is_cube m (both (all is_cube f) (pairwise loose f) e).0)).0

  pub cube-proper : {c : List ℕ} → c ∈ f → proper c ≡ true
  cube-proper {c} m = (both (asc c) (proper c) (all-out is_cube m (both (all is_cube f) (pairwise loose f) e).0)).1

  pub cubes-loose : pairwise loose f ≡ true
  cubes-loose = (both (all is_cube f) (pairwise loose f) e).1

  pub cubes-differ : pairwise (λ c d. not (same c d)) f ≡ true
  cubes-differ = pairwise-imp loose (λ c d. not (same c d)) f loose-differ cubes-loose

-- two cubes are not the same
pub differ-in : (c d : List ℕ) → (c ≡ d → ⊥) → not (same c d) ≡ true
differ-in c d k = ap not (refuted (λ e. k (same-eq c d e)))

pub differ-out : (c d : List ℕ) → not (same c d) ≡ true → c ≡ d → ⊥
differ-out c d h e = clash (eq-same c d e) (not-true (same c d) h)

-- ---- the parts of a sum

-- ascending, disjoint, of one or two literals each, the smaller first
pub sum-parts : (a b : List ℕ) → sound (sum a b) ≡ true → Parts a b
sum-parts a b h =
    let p = both (asc a) _ h in
    let q = both (asc b) _ p.1 in
    let r = both (apart a b) _ q.1 in
    let s = both (small a) _ r.1 in
    let t = both (small b) (before a b) s.1 in
    record { asc-a = p.0; asc-b = q.0; disjoint = r.0; small-a = s.0; small_b = t.0; ordered = t.1 }

pub part-asc : (d : Divisor) → sound d ≡ true → asc (part d) ≡ true
part-asc (pair p q) h = rw h
part-asc (sum a b) h = (sum-parts a b h).asc-a

pub apart-flip : (a b : List ℕ) → apart a b ≡ true → apart b a ≡ true
apart-flip a b h = apart_in b a (λ z m. refuted (λ k. clash m (apart_out a b z h k)))

-- a part with literals of its own is not within another
pub small-sub : (a b : List ℕ) → small a ≡ true → apart a b ≡ true → sub a b ≡ false
unfolding small
small-sub [] b s h = absurd (false≢true s)
small-sub (x ∷ a) b s h = refuted (λ k. clash (sub_out (x ∷ a) b x k (mem-of (here refl))) (apart_out (x ∷ a) b x h (mem-of (here refl))))

-- ---- the uses of a sum: each is two cubes with a common base

-- what the test of a use says
pub use-out : (a b : List ℕ) (f : List (List ℕ)) (c : List ℕ) → use_of a b f c ≡ true → Use a b f c
unfolding use_of
use-out a b f c h =
    let p = both (sub a c) (apart (without c a) b && has (union (without c a) b) f) h in
    let q = both (apart (without c a) b) (has (union (without c a) b) f) p.1 in
    record { inside = p.0; free = q.0; partner = has-out _ f q.1 }

pub use-in : (a b : List ℕ) (f : List (List ℕ)) (c : List ℕ) → Use a b f c → use_of a b f c ≡ true
unfolding use_of
use-in a b f c u = rw (u.inside, u.free) (has_in u.partner)

-- a use has the part that it is named by, and is taken away
pub hit-inside : (d : Divisor) (f : List (List ℕ)) (c : List ℕ) → hit d f c ≡ true → sub (part d) c ≡ true
hit-inside (pair p q) f c h = h
hit-inside (sum a b) f c h = (use-out a b f c h).inside

pub hit-gone : (d : Divisor) (f : List (List ℕ)) (c : List ℕ) → hit d f c ≡ true → gone d f c ≡ true
hit-gone (pair p q) f c h = h
hit-gone (sum a b) f c h = rw h

-- a pair's uses are all cubes that contain both literals
pair-hit : (p q : ℕ) (c : List ℕ) → (sub (p ∷ q ∷ []) c ≡ true) ↔ ((mem p c ≡ true) × (mem q c ≡ true))
unfolding sub
pair-hit p q c = (λ h. let w = both (mem p c) (mem q c && true) h in (w.0, (both (mem q c) true w.1).0), λ (i, j). rw (i, j))

pub pair-uses : (p q : ℕ) (f : List (List ℕ)) (c : List ℕ) → (c ∈ found (pair p q) f) ↔ ((c ∈ f) × (mem p c ≡ true) × (mem q c ≡ true))
pair-uses p q f c = (
  λ m. let k = keep_out (hit (pair p q) f) f m in
      let w = (pair-hit p q c).0 k.1 in (k.0, w.0, w.1),
  λ (m, i, j). keep-in (hit (pair p q) f) m ((pair-hit p q c).1 (i, j)),
)

module _ (a b : List ℕ) (ha : asc a ≡ true) (hb : asc b ≡ true) (f : List (List ℕ)) (e : expression f ≡ true) where
  -- the other cube of a use, which has the same base
  pub use-partner : {c : List ℕ} → c ∈ f → use_of a b f c ≡ true → Partner a b f c
  use-partner {c} m h =
      let u = use-out a b f c h in
      let one = unjoin (without c a) b (without-asc c a (cube-asc f e m)) hb u.free in
      let whole = rejoin c a (cube-asc f e m) ha u.inside in
      record {
        inside = u.partner;
        turned = use-in b a f (other a b c) (record { inside = union_right (without c a) b; free = rw one (without-apart c a); partner = rw (one, whole) m });
        base = one;
        back = rw one whole;
      }

-- ---- the bases of a sum

-- a cube of a use is its base and the part; and a base with the part is a cube of a use
module _ (a b : List ℕ) (ha : asc a ≡ true) (f : List (List ℕ)) where
  use-base : expression f ≡ true → {c : List ℕ} → c ∈ f → use_of a b f c ≡ true → Base a b f (without c a) × (c ≡ union (without c a) a)
  use-base e {c} m h =
      let u = use-out a b f c h in
      let p = rejoin c a (cube-asc f e m) ha u.inside in
      (record { ascending = without-asc c a (cube-asc f e m); off-a = without-apart c a; off-b = u.free; with-a = Memᴰ.cast p m; with-b = u.partner }, sym p)

  base-use : {z : List ℕ} → Base a b f z → use_of a b f (union z a) ≡ true
  base-use {z} r =
      let p : without (union z a) a ≡ z = unjoin z a r.ascending ha r.off-a in
      use-in a b f (union z a) (record { inside = union_right z a; free = rw p r.off-b; partner = rw p r.with-b })

base-flip : {a b : List ℕ} {f : List (List ℕ)} {z : List ℕ} → Base a b f z → Base b a f z
base-flip r = record { ascending = r.ascending; off-a = r.off-b; off-b = r.off-a; with-a = r.with-b; with-b = r.with-a }

-- the uses take away their cubes and no others
pub gone-iff : (d : Divisor) → sound d ≡ true → (f : List (List ℕ)) → expression f ≡ true → {c : List ℕ} → c ∈ f → (gone d f c ≡ true) ↔ InUse d f c
gone-iff (pair p q) s f e {c} m = pair-hit p q c
gone-iff (sum a b) s f e {c} m = let w = sum-parts a b s in (
  λ h. elim (either (use_of a b f c) (use_of b a f c) h) [
    | inl u ↦ let r = use-base a b w.asc-a f e m u in (without c a, r.0, inl r.1)
    | inr u ↦ let r = use-base b a w.asc-b f e m u in (without c b, base-flip r.0, inr r.1)
  ],
  λ (z, r, o). elim o [ inl p ↦ rw (p, base-use a b w.asc-a f r) | inr p ↦ rw (p, base-use b a w.asc-b f (base-flip r), or-true) ],
)

module _ (a b : List ℕ) (w : Parts a b) (f : List (List ℕ)) (e : expression f ≡ true) where
  -- a base of a sum shares no literal with its parts, and with either it is a cube of the expression
  pub bases-iff : (c : List ℕ) → (c ∈ bases (sum a b) f) ↔ Base a b f c
  bases-iff c = (
    λ m. let q = map-out (λ z. without z a) (found (sum a b) f) m in
        let k = keep_out (use_of a b f) f q.1 in
        subst (Base a b f) (sym q.2) (use-base a b w.asc-a f e k.0 k.1).0,
    λ r. Memᴰ.cast (sym (unjoin c a r.ascending w.asc-a r.off-a))
        (map-in (λ z. without z a) (keep-in (use_of a b f) r.with-a (base-use a b w.asc-a f r))),
  )

  -- each of them once
  pub bases-once : pairwise (λ c d. not (same c d)) (bases (sum a b) f) ≡ true
  bases-once = pairwise_map (λ c d. not (same c d)) (λ c d. not (same c d)) (λ z. without z a) (found (sum a b) f) (λ c d m n h.
      let p = keep_out (use_of a b f) f m in
      let q = keep_out (use_of a b f) f n in
      differ-in (without c a) (without d a) (λ k. differ-out c d h
      (sym (rejoin c a (cube-asc f e p.0) w.asc-a (use-out a b f c p.1).inside)
      ∙ ap (λ z. union z a) k
      ∙ rejoin d a (cube-asc f e q.0) w.asc-a (use-out a b f d q.1).inside)))
      (pairwise-keep (λ c d. not (same c d)) (use_of a b f) f (cubes-differ f e))

-- no base with the one part is another with the other
crossed : (a b : List ℕ) → Parts a b → (f : List (List ℕ)) (c d : List ℕ) → Base a b f c → union c a ≡ union d b → ⊥
unfolding small
crossed a [] w f c d h e = false≢true w.small_b
crossed a (z ∷ b) w f c d h e =
    let own : mem z (z ∷ b) ≡ true = mem-of (here refl) in
    clash {b = mem z (union c a)} (rw e (sub_out (z ∷ b) (union d (z ∷ b)) z (union_right d (z ∷ b)) own))
    (rw (union-mem, refuted (λ k. clash own (apart_out c (z ∷ b) z h.off-b k))) (refuted (λ k. clash own (apart_out a (z ∷ b) z w.disjoint k))))

module _ (a b : List ℕ) (w : Parts a b) (f : List (List ℕ)) where
  -- uses of one sum never share a cube: one that is of the uses with the bases z and y is of one use
  pub uses-apart : (c z y : List ℕ) → Base a b f z → Base a b f y → (c ≡ union z a) ⊎ (c ≡ union z b) → (c ≡ union y a) ⊎ (c ≡ union y b) → z ≡ y
  uses-apart c z y h k (inl p) (inl q) =
      sym (unjoin z a h.ascending w.asc-a h.off-a) ∙ ap (λ x. without x a) (sym p ∙ q) ∙ unjoin y a k.ascending w.asc-a k.off-a
  uses-apart c z y h k (inl p) (inr q) = absurd (crossed a b w f z y h (sym p ∙ q))
  uses-apart c z y h k (inr p) (inl q) = absurd (crossed a b w f y z k (sym q ∙ p))
  uses-apart c z y h k (inr p) (inr q) =
      sym (unjoin z b h.ascending w.asc-b h.off-b) ∙ ap (λ x. without x b) (sym p ∙ q) ∙ unjoin y b k.ascending w.asc-b k.off-b

-- so no cube is of a use in both ways
pub use-one-way : (a b : List ℕ) → Parts a b → (f : List (List ℕ)) (c : List ℕ) → use_of a b f c ≡ true → use_of b a f c ≡ true → ⊥
unfolding small
use-one-way a [] w f c h k = false≢true w.small_b
use-one-way a (z ∷ b) w f c h k =
    let m : mem z (z ∷ b) ≡ true = mem-of (here refl) in
    let i : mem z c ≡ true = sub_out (z ∷ b) c z (use-out (z ∷ b) a f c k).inside m in
    elim (decided (mem z a)) [
      | inl e ↦ clash m (apart_out a (z ∷ b) z w.disjoint e)
      | inr e ↦ clash m (apart_out (without c a) (z ∷ b) z (use-out a (z ∷ b) f c h).free (rw (without-mem, i, e)))
    ]
