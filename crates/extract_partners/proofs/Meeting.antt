-- The removals of a node, each two of them met, gain what every two cubes of the node gain. Assumes nothing.
use Prim.Native.Nat.{ℕ, suc, ◌+◌, ◌-◌, ◌*◌, ◌<◌}
use mathlib.Core.Path.{◌≡◌, refl, sym, ap, ap₂, ◌∙◌}
use mathlib.Core.Logic.{inl, inr}
use mathlib.Core.Bool.{Bool, true, false, cond, not, ◌&&◌}
use mathlib.Core.List.Memᴰ.{head as here}
use mathlib.Core.List.Memᴰ.{tail as there}
use mathlib.Core.List.{List, [], ◌∷◌, ◌++◌, map}
use native.Mathlib.Omega.{arith}
use lib.Dec.{ltb}
use lib.ListN.{length, get_or, take}
use Rattle.sets.{specs.Lists.all, specs.Lists.total, proofs.Rows.take_next}
use Rattle.sets.specs.Sets.{mem, asc, apart, without, meet, same}
use Rattle.sets.proofs.Truth.{decided, refuted, both}
use Rattle.sets.proofs.Lists.{◌∈◌, map-out, total-append, total-cong, total-sum, total-map}
use Rattle.sets.proofs.Sets.{all-mem, mem-all, sub_out, ext, meet-mem, meet-asc, without-mem, without-asc, without_sub}
use Rattle.cube.specs.Cube.{width}
use Rattle.extract_laws.{specs.Divisor.small, specs.Extract.sum_of, proofs.Parting.parts-apart, proofs.Parting.parts-differ}
use Rattle.extract_gains.specs.Gains.{only}
use Rattle.extract_keys.specs.Keys.{part_code, part_of, two_codes}
use Rattle.extract_keys.proofs.Codes.{part-shape, part-code, code_below}
use Rattle.extract_keys.proofs.Keys.{two-key}
use Rattle.extract_counts.specs.Counts.{two_gain, row_gain, sums_gain}
use Rattle.extract_rows.proofs.Counting.{cost-sum}
use Rattle.extract_partners.specs.Removal.{removals}
use Rattle.extract_partners.specs.Table.{removal_of, part_at, left_at, removals_from, use_gain, every_two}
use Rattle.extract_partners.proofs.Removing.{Removal, removal-out}
use Rattle.extract_partners.proofs.Searching.{meets-one, test-meets, met, total-zero}

-- ---- every two of a list

pub every_append : (g : ℕ → ℕ → ℕ) (l m : List ℕ) → every_two g (l ++ m) ≡ every_two g l + (total (λ x. total (g x) m) l + every_two g m)
unfolding every_two
every_append g [] m = omega arith
every_append g (x ∷ l) m = omega (arith, every_append g l m, total-append (g x) l m)

pub every-zero : (g : ℕ → ℕ → ℕ) (l : List ℕ) → ((x y : ℕ) → x ∈ l → y ∈ l → g x y ≡ 0) → every_two g l ≡ 0
unfolding every_two
every-zero g [] h = refl
every-zero g (x ∷ l) h =
    omega (arith, total-zero (g x) l (λ y m. h x y (here refl) (there m)), every-zero g l (λ y z i j. h y z (there i) (there j)))

-- one more, after the others
pub every-next : (g : ℕ → ℕ → ℕ) (l : List ℕ) (e : ℕ) → e < length l
    → every_two g (take (e + 1) l) ≡ every_two g (take e l) + total (λ x. g x (get_or l e 0)) (take e l)
unfolding every_two
every-next g l e h = ap (every_two g) (take_next l e 0 h) ∙ every_append g (take e l) (get_or l e 0 ∷ [])
    ∙ omega (arith, total-cong (λ x. g x (get_or l e 0) + 0) (λ x. g x (get_or l e 0)) (take e l) (λ x m. omega arith))

-- ---- the removals of a cube of a node

-- literals ascend, and are those that a cube can have
pub record Narrow (c : List ℕ) : Type 0 where
  pub ascends : asc c ≡ true
  pub below : all (λ l. ltb l (2 * width)) c ≡ true

narrow-in : {c a : List ℕ} → Narrow c → Removal c a → all (λ l. ltb l (2 * width)) a ≡ true
narrow-in {c} {a} n r =
    all-mem (λ l. ltb l (2 * width)) a (λ z m. mem-all (λ l. ltb l (2 * width)) c z n.below (sub_out a c z r.inside m))

-- the number of a removal tells its part
pub part-told : {c : List ℕ} (j : ℕ) → Narrow c → {a : List ℕ} → Removal c a → part_at (removal_of j a) ≡ a
part-told j n {a} r =
    let b = narrow-in n r in
    let l = code_below a b in
    ap part_of (omega arith) ∙ part-code (part-shape a r.ascends r.few b)

-- and what it leaves
record Told (f : List (List ℕ)) (c : List ℕ) (j : ℕ) (a : List ℕ) : Type 0 where
  part-is : part_at (removal_of j a) ≡ a
  left_is : left_at f (removal_of j a) ≡ without c a

removal-told : (f : List (List ℕ)) {c : List ℕ} (j : ℕ) → Narrow c → get_or f j [] ≡ c → {a : List ℕ} → a ∈ removals c → Told f c j a
unfolding left_at
removal-told f {c} j n e {a} m =
    let r = removal-out c n.ascends m in
    let l = code_below a (narrow-in n r) in
    let p = part-told j n r in
    record { part-is = p; left_is = ap₂ without (ap (λ i. get_or f i []) (omega arith) ∙ e) p }

-- ---- two cubes

abbrev met_gain : ℕ → List ℕ → List ℕ → List ℕ → ℕ
met_gain k d a b = only (two_codes (part_code a) (part_code b)) (length (without d b) + ((length a + length b) - 1)) k

met-use : (f : List (List ℕ)) (k : ℕ) {c d a b : List ℕ} {i j : ℕ} → Told f c i a → Told f d j b
    → use_gain f k (removal_of i a) (removal_of j b) ≡ cond (same (without c a) (without d b) && apart a b) (met_gain k d a b) 0
unfolding use_gain
met-use f k p q = rw (p.part-is, p.left_is, q.part-is, q.left_is)

common-table : (c d : Bool) → (c && d) ≡ (d && not (d && not c))
common-table true true = refl
common-table true false = refl
common-table false true = refl
common-table false false = refl

-- what each of two cubes has and the other has not
differs : {c : List ℕ} (d : List ℕ) → Narrow c → small (without c d) ≡ true → Removal c (without c d)
differs {c} d n s = record { ascends = without-asc c d n.ascends; inside = without_sub c d; few = s }

-- the removals of two cubes, met, gain what the cubes gain
met-gain : (k : ℕ) (c d : List ℕ) → Narrow c → Narrow d
    → total (λ a. total (λ b. cond (same (without c a) (without d b) && apart a b) (met_gain k d a b) 0) (removals d)) (removals c) ≡ two_gain k c d
unfolding two_gain sum_of
met-gain k c d n m = met c d n.ascends m.ascends (met_gain k d) ∙ elim (decided (small (without c d) && small (without d c))) [
  | inl t ↦
      let (s, u) = both (small (without c d)) (small (without d c)) t in
      let x = differs d n s in
      let y = differs c m u in
      let key = two-key (without c d) (without d c) x.ascends y.ascends s u (parts-apart c d) (narrow-in n x) (narrow-in m y) in
      let base : meet c d ≡ without d (without d c) =
      ext (meet c d) (without d (without d c)) (meet-asc c d n.ascends) (without-asc d (without d c) m.ascends)
      (λ z. simp (meet-mem, without-mem) (common-table (mem z c) (mem z d))) in
      rw (t, key, base, cost-sum (without c d) (without d c)) (omega arith)
  | inr t ↦ rw t
]

-- ---- a node

-- the cubes f are those of the node from place j on
abbrev From : List (List ℕ) → ℕ → List (List ℕ) → Type 0
From node j f = (i : ℕ) → get_or node (j + i) [] ≡ get_or f i []

from_next : (node : List (List ℕ)) (j : ℕ) (d : List ℕ) (f : List (List ℕ)) → From node j (d ∷ f) → (get_or node j [] ≡ d) × From node (suc j) f
from_next node j d f h = (
  let e : j ≡ j + 0 = omega arith in ap (λ i. get_or node i []) e ∙ h 0,
  λ i. let e : suc j + i ≡ j + suc i = omega arith in ap (λ n. get_or node n []) e ∙ h (suc i),
)

module _ (node : List (List ℕ)) (k : ℕ) where
  -- the removals of a cube at place i and of one at place j
  two-cubes : (c d : List ℕ) (i j : ℕ) → Narrow c → Narrow d → get_or node i [] ≡ c → get_or node j [] ≡ d
      → total (λ v. total (use_gain node k v) (map (removal_of j) (removals d))) (map (removal_of i) (removals c)) ≡ two_gain k c d
  two-cubes c d i j n m p q =
      total-map (λ v. total (use_gain node k v) (map (removal_of j) (removals d))) (removal_of i) (removals c)
      ∙ total-cong _ _ (removals c) (λ a x. total-map (use_gain node k (removal_of i a)) (removal_of j) (removals d)
      ∙ total-cong _ _ (removals d) (λ b y. met-use node k (removal-told node i n p x) (removal-told node j m q y)))
      ∙ met-gain k c d n m

  -- of a cube at place i and of those from place j on
  row-cubes : (c : List ℕ) (i : ℕ) → Narrow c → get_or node i [] ≡ c → (f : List (List ℕ)) (j : ℕ) → ((d : List ℕ) → d ∈ f → Narrow d) → From node j f
      → total (λ v. total (use_gain node k v) (removals_from j f)) (map (removal_of i) (removals c)) ≡ row_gain k c f
  unfolding row_gain removals_from
  row-cubes c i n p [] j m q = total-zero (λ v. 0) (map (removal_of i) (removals c)) (λ v x. refl)
  row-cubes c i n p (d ∷ f) j m q =
      let own = map (removal_of j) (removals d) in
      let e = total-sum (λ v. total (use_gain node k v) (own ++ removals_from (suc j) f)) (λ v. total (use_gain node k v) own)
      (λ v. total (use_gain node k v) (removals_from (suc j) f)) (map (removal_of i) (removals c))
      (λ v x. total-append (use_gain node k v) own (removals_from (suc j) f)) in
      let (r, s) = from_next node j d f q in
      omega (arith, e, two-cubes c d i j n (m d (here refl)) p r, row-cubes c i n p f (suc j) (λ x y. m x (there y)) s)

  -- two removals of one cube do not meet
  own-none : (c : List ℕ) (i : ℕ) → Narrow c → get_or node i [] ≡ c → every_two (use_gain node k) (map (removal_of i) (removals c)) ≡ 0
  own-none c i n p = every-zero (use_gain node k) (map (removal_of i) (removals c)) (λ v w x y.
      let (a, r, s) = map-out (removal_of i) (removals c) x in
      let (b, t, u) = map-out (removal_of i) (removals c) y in
      rw (s, u) (met-use node k (removal-told node i n p r) (removal-told node i n p t) ∙ rw (refuted (λ z. never a b r t z))))
    where
      never : (a b : List ℕ) → a ∈ removals c → b ∈ removals c → (same (without c a) (without c b) && apart a b) ≡ true → ⊥
      never a b r t z =
          let m = test-meets c c r t z in
          let (e, g) = meets-one c c a b n.ascends n.ascends m in
          parts-differ a b (removal-out c n.ascends r).few m.disjoint (e ∙ sym g)

  -- of all cubes from place j on
  pub node-cubes : (f : List (List ℕ)) (j : ℕ) → ((d : List ℕ) → d ∈ f → Narrow d) → From node j f
      → every_two (use_gain node k) (removals_from j f) ≡ sums_gain k f
  unfolding sums_gain removals_from every_two
  node-cubes [] j m q = refl
  node-cubes (c ∷ f) j m q =
      let (r, s) = from_next node j c f q in
      let n = m c (here refl) in
      let w : (d : List ℕ) → d ∈ f → Narrow d = λ d x. m d (there x) in
      omega (
        arith,
        every_append (use_gain node k) (map (removal_of j) (removals c)) (removals_from (suc j) f),
        own-none c j n r,
        row-cubes c j n r f (suc j) w s,
        node-cubes f (suc j) w s,
      )
