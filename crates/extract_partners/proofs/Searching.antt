-- Two cubes make a divisor where a removal of one and a removal of the other share no literal and leave the same; there is one such pair of
-- removals at most. Assumes nothing.
use Prim.Native.Nat.{ℕ}
use mathlib.Core.Path.{◌≡◌, refl, sym, ap, ◌∙◌, subst}
use mathlib.Core.Logic.{inl, inr, ◌↔◌}
use mathlib.Core.Bool.{Bool, true, false, not, cond, ◌&&◌}
use mathlib.Core.List.Memᴰ
use mathlib.Core.List.Memᴰ.{head as here}
use mathlib.Core.List.{List, [], ◌∷◌, Memᴰ}
use native.Mathlib.Omega.{arith}
use native.Mathlib.Nat.{mul-zero}
use Rattle.sets.specs.Lists.{any, all, keep, total, pairwise}
use Rattle.sets.specs.Sets.{mem, asc, apart, without, same, before}
use Rattle.sets.proofs.Truth.{both, together, decided, clash, refuted}
use Rattle.sets.proofs.Lists.{◌∈◌, any-in, any_out, all-out, keep-in, keep_out, pairwise-keep, total-cong, total-split, total-times}
use Rattle.sets.proofs.Orders.{before-order, ext-in}
use Rattle.sets.proofs.Sets.{sub_out, apart_out, without-mem, without-asc, without_sub, ext, same-eq, same_self, eq-same}
use Rattle.extract_laws.specs.{Divisor.Divisor, Divisor.small, Extract.smaller_first, Extract.sum_of}
use Rattle.extract_laws.proofs.{Using.apart-flip, Parting.parts-apart, Offering.sum-of-out}
use Rattle.extract_partners.specs.Removal.{removals, test, partners, Meets}
use Rattle.extract_partners.proofs.Removing.{Removal, removal-out, removal-in, removals-ordered}

-- ---- one literal in two cubes and their parts

part-table : (c d a b : Bool) → (a ≡ true → c ≡ true) → (a ≡ true → b ≡ false) → (c && not a) ≡ (d && not b) → a ≡ (c && not d)
part-table c d true b i n e = rw (i refl) (go d (rw (i refl, n refl) at e))
  where
    go : (d : Bool) → false ≡ (d && true) → true ≡ not d
    go true k = clash refl (sym k)
    go false k = refl
part-table false d false b i n e = refl
part-table true d false b i n e = rw (both d (not b) (sym e)).0

left-table : (c d : Bool) → (c && not (c && not d)) ≡ (d && not (d && not c))
left-table true true = refl
left-table true false = refl
left-table false true = refl
left-table false false = refl

part-is : (c d a b : List ℕ) → asc c ≡ true → Removal c a → without c a ≡ without d b → apart a b ≡ true → a ≡ without c d
part-is c d a b h r e k = ext a (without c d) r.ascends (without-asc c d h) (λ z. rw without-mem
    (part-table (mem z c) (mem z d) (mem z a) (mem z b) (sub_out a c z r.inside) (apart_out a b z k)
    (sym (without-mem z c a) ∙ ap (mem z) e ∙ without-mem z d b)))

-- ---- the laws

-- the parts that meet are what each cube has and the other has not
pub meets-one : (c d a b : List ℕ) → asc c ≡ true → asc d ≡ true → Meets c d a b → (a ≡ without c d) × (b ≡ without d c)
meets-one c d a b h k m = (
  part-is c d a b h (removal-out c h m.in_first) m.left m.disjoint,
  part-is d c b a k (removal-out d k m.in_second) (sym m.left) (apart-flip a b m.disjoint),
)

-- two cubes less their common literals leave the same
pub left-same : (c d : List ℕ) → asc c ≡ true → asc d ≡ true → without c (without c d) ≡ without d (without d c)
left-same c d h k = ext (without c (without c d)) (without d (without d c)) (without-asc c (without c d) h) (without-asc d (without d c) k)
    (λ z. simp without-mem (left-table (mem z c) (mem z d)))

parts_meet : (c d : List ℕ) → asc c ≡ true → asc d ≡ true → small (without c d) ≡ true → small (without d c) ≡ true
    → Meets c d (without c d) (without d c)
parts_meet c d h k s t = record {
  in_first = removal-in c (without c d) h (record { ascends = without-asc c d h; inside = without_sub c d; few = s });
  in_second = removal-in d (without d c) k (record { ascends = without-asc d c k; inside = without_sub d c; few = t });
  left = left-same c d h k;
  disjoint = parts-apart c d;
}

-- two cubes have parts that meet where each has one or two literals that the other lacks
pub meets-iff : (c d : List ℕ) → asc c ≡ true → asc d ≡ true
    → ((a : List ℕ) × (b : List ℕ) × Meets c d a b) ↔ ((small (without c d) ≡ true) × (small (without d c) ≡ true))
meets-iff c d h k = (
  λ (a, b, m). let (p, q) = meets-one c d a b h k m in (
    subst (λ x. small x ≡ true) p (removal-out c h m.in_first).few,
    subst (λ x. small x ≡ true) q (removal-out d k m.in_second).few,
  ),
  λ (s, t). (without c d, without d c, parts_meet c d h k s t),
)

-- what passes the test meets
pub test-meets : (c d : List ℕ) {a b : List ℕ} → a ∈ removals c → b ∈ removals d → test c d a b ≡ true → Meets c d a b
test-meets c d {a} {b} i j z =
    let (e, n) = both (same (without c a) (without d b)) (apart a b) z in
    record { in_first = i; in_second = j; left = same-eq (without c a) (without d b) e; disjoint = n }

-- the partners found by removal are exactly the cubes of the node with which c makes a divisor
pub partner-iff : (c : List ℕ) (f : List (List ℕ)) → asc c ≡ true → all asc f ≡ true → (d : List ℕ)
    → (Memᴰ d (partners c f)) ↔ (Memᴰ d f × ((e : Divisor) × Memᴰ e (sum_of c d)))
unfolding sum_of partners
partner-iff c f h k d = (
  λ m.
      let (i, t) = keep_out (λ d. any (λ a. any (test c d a) (removals d)) (removals c)) f m in
      let (a, x, u) = any_out (λ a. any (test c d a) (removals d)) (removals c) t in
      let (b, y, v) = any_out (test c d a) (removals d) u in
      let (s, w) = (meets-iff c d h (all-out asc i k)).0 (a, b, test-meets c d x y v) in
      (i, (smaller_first (without c d) (without d c), rw (s, w) (here refl))),
  λ (i, (e, m)).
      let r = sum-of-out c d e m in
      let (a, b, w) = (meets-iff c d h (all-out asc i k)).1 (r.0, r.1) in
      keep-in (λ d. any (λ a. any (test c d a) (removals d)) (removals c)) i (any-in (λ a. any (test c d a) (removals d)) w.in_first
      (any-in (test c d a) w.in_second (rw (w.left, same_self (without d b), w.disjoint)))),
)

-- ---- each two removals that meet are found once

pub total-zero : {A : Type 0} (g : A → ℕ) (l : List A) → ((x : A) → x ∈ l → g x ≡ 0) → total g l ≡ 0
total-zero g l h = total-cong g (λ x. 0) l h ∙ total-times (λ x. 1) 0 l ∙ mul-zero (total (λ x. 1) l)

-- the others add nothing
total-one : (g : List ℕ → ℕ) {x : List ℕ} {l : List (List ℕ)} → pairwise before l ≡ true → x ∈ l
    → ((y : List ℕ) → y ∈ l → (y ≡ x → ⊥) → g y ≡ 0) → total g l ≡ g x
total-one g {x} {l} o m h =
    let one : keep (same x) l ≡ x ∷ [] = ext-in before before-order (keep (same x) l) (x ∷ []) (pairwise-keep before (same x) l o) refl
    (λ z i. here (sym (same-eq x z (keep_out (same x) l i).1)))
    (λ z i. let e = Memᴰ.eq_of_singleton i in Memᴰ.cast e (keep-in (same x) m (same_self x))) in
    let rest = total-zero g (keep (λ y. not (same x y)) l) (λ y i.
    let (j, n) = keep_out (λ y. not (same x y)) l i in h y j (λ e. clash n (ap not (eq-same x y (sym e))))) in
    omega (arith, total-split g (same x) l, ap (total g) one)

-- the removals of c and of d that meet give what g gives for the two differences, where these are small
pub met : (c d : List ℕ) → asc c ≡ true → asc d ≡ true → (g : List ℕ → List ℕ → ℕ)
    → total (λ a. total (λ b. cond (same (without c a) (without d b) && apart a b) (g a b) 0) (removals d)) (removals c)
    ≡ cond (small (without c d) && small (without d c)) (g (without c d) (without d c)) 0
met c d h k g = elim (decided (small (without c d) && small (without d c))) [
  | inl t ↦
      let (s, u) = both (small (without c d)) (small (without d c)) t in
      let w = parts_meet c d h k s u in
      rw t (total-one (λ a. total (λ b. cond (test c d a b) (g a b) 0) (removals d)) (removals-ordered c h) w.in_first
      (λ a i n. total-zero (λ b. cond (test c d a b) (g a b) 0) (removals d) (λ b j. rw (refuted (λ z. n (meets-one c d a b h k (test-meets c d i j z)).0))))
      ∙ total-one (λ b. cond (test c d (without c d) b) (g (without c d) b) 0) (removals-ordered d k) w.in_second
      (λ b j n. rw (refuted (λ z. n (meets-one c d (without c d) b h k (test-meets c d w.in_first j z)).1)))
      ∙ rw (w.left, same_self (without d (without d c)), w.disjoint))
  | inr t ↦ rw t (total-zero (λ a. total (λ b. cond (test c d a b) (g a b) 0) (removals d)) (removals c) (λ a i.
      total-zero (λ b. cond (test c d a b) (g a b) 0) (removals d) (λ b j. rw (refuted (λ z.
      let (s, u) = (meets-iff c d h k).0 (a, b, test-meets c d i j z) in clash (together (small (without c d)) (small (without d c)) s u) t)))))
]

-- so they are found once where the cubes make a divisor, and else never
pub met-once : (c d : List ℕ) → asc c ≡ true → asc d ≡ true
    → total (λ a. total (λ b. cond (same (without c a) (without d b) && apart a b) 1 0) (removals d)) (removals c)
    ≡ cond (small (without c d) && small (without d c)) 1 0
met-once c d h k = met c d h k (λ a b. 1)
