-- What a cube line means: its cube's value is that the setting covers the places; its literals ascend, of one variable each, within the
-- inputs. Assumes nothing.
use Prim.Native.Nat.{ℕ, suc, ◌+◌, ◌*◌, ◌/◌, ◌%◌, ◌<◌, ◌≤◌}
use mathlib.Core.Path.{◌≡◌, refl, sym}
use mathlib.Core.Logic.{◌⊎◌, inl, inr}
use mathlib.Core.Bool.{Bool, true, false, cond, not, ◌&&◌, ◌||◌}
use mathlib.Core.List.Memᴰ
use mathlib.Core.List.{List, [], ◌∷◌}
use native.Mathlib.Omega.{arith}
use lib.Dec.{eqb, ltb}
use lib.ListN.{length}
use borrow.Author.Tests.{lt-ltb, ltb-true, eqb-false, ne_eqb, not-true}
use Rattle.sets.{specs.Lists.all, specs.Lists.pairwise, specs.Literal.opposite_of, specs.Sets.asc, specs.Sets.proper, proofs.Sets.of_mem, proofs.Sets.proper-in}
use Rattle.sets.proofs.Truth.{both, together, refuted}
use Rattle.sets.proofs.Lists.{◌∈◌, all_in, pairwise-imp, pairwise-out}
use Rattle.expression.specs.Value.{lit}
use Rattle.table_rows.specs.Lines.{is_place, cube_from, covers}

-- ---- the value

lit-plain : (a : ℕ → Bool) (v : ℕ) → lit a (2 * v) ≡ a v
unfolding lit
lit-plain a v = let r : 2 * v % 2 ≡ 0 = omega arith in let q : 2 * v / 2 ≡ v = omega arith in rw (r, q)

lit-negated : (a : ℕ → Bool) (v : ℕ) → lit a (2 * v + 1) ≡ not (a v)
unfolding lit
lit-negated a v = let r : (2 * v + 1) % 2 ≡ 1 = omega arith in let q : (2 * v + 1) / 2 ≡ v = omega arith in rw (r, q)

-- a setting gives the cube of a line the value 1 exactly when it covers the places
pub covers-value : (a : ℕ → Bool) (v : ℕ) (p : List ℕ) → all is_place p ≡ true → all (lit a) (cube_from v p) ≡ covers a v p
unfolding cube_from covers
covers-value a v [] h = refl
covers-value a v (b ∷ t) h = go (eqb b 49) (eqb b 48) (eqb b 45) (both (is_place b) (all is_place t) h).0
    (covers-value a (suc v) t (both (is_place b) (all is_place t) h).1)
  where
    go : (x y z : Bool) → (y || (x || z)) ≡ true → all (lit a) (cube_from (suc v) t) ≡ covers a (suc v) t
        → all (lit a) (cond x ((2 * v) ∷ cube_from (suc v) t) (cond y ((2 * v + 1) ∷ cube_from (suc v) t) (cube_from (suc v) t)))
        ≡ (cond x (a v) (cond y (not (a v)) z) && covers a (suc v) t)
    go true y z k e = rw (lit-plain a v, e)
    go false true z k e = rw (lit-negated a v, e)
    go false false z k e = rw (k, e)

-- ---- the literals

module _ {l : ℕ} where
  -- a literal of a variable of the places
  pub from-bounds : (v : ℕ) (p : List ℕ) → l ∈ cube_from v p → (v ≤ l / 2) × (l / 2 < v + length p)
  unfolding cube_from
  from-bounds v [] m = absurd (Memᴰ.not-nil m)
  from-bounds v (b ∷ t) m = go (λ k. let r = from-bounds (suc v) t k in (omega arith, omega arith)) (eqb b 49) (eqb b 48) m
    where
      go : (l ∈ cube_from (suc v) t → (v ≤ l / 2) × (l / 2 < v + suc (length t))) → (x y : Bool)
          → l ∈ cond x ((2 * v) ∷ cube_from (suc v) t) (cond y ((2 * v + 1) ∷ cube_from (suc v) t) (cube_from (suc v) t)) → (v ≤ l / 2)
          × (l / 2 < v + suc (length t))
      go later true y k = elim (Memᴰ.cases_cons k) [ inl e ↦ (omega arith, omega arith) | inr i ↦ later i ]
      go later false true k = elim (Memᴰ.cases_cons k) [ inl e ↦ (omega arith, omega arith) | inr i ↦ later i ]
      go later false false k = later k

-- ---- literals whose variables ascend

abbrev pub climbs : ℕ → ℕ → Bool
climbs x y = ltb (x / 2) (y / 2)

-- ascend themselves
pub climbs-asc : (c : List ℕ) → pairwise climbs c ≡ true → asc c ≡ true
climbs-asc c h = pairwise-imp climbs ltb c (λ x y k. let i = ltb-true (x / 2) (y / 2) k in lt-ltb x y (omega arith)) h

-- and have no variable both ways
pub climbs-proper : (c : List ℕ) → pairwise climbs c ≡ true → proper c ≡ true
climbs-proper c h = proper-in c (λ z m. refuted (λ k. clashing z (pairwise-out differ differ-sym apart (of_mem z c m) (of_mem (opposite_of z) c k))))
  where
    differ : ℕ → ℕ → Bool
    differ x y = not (eqb (x / 2) (y / 2))

    differ-sym : (x y : ℕ) → differ x y ≡ true → differ y x ≡ true
    differ-sym x y k = let e = eqb-false (x / 2) (y / 2) (not-true _ k) in rw (ne_eqb (y / 2) (x / 2) (λ q. e (sym q)))

    apart : pairwise differ c ≡ true
    apart = pairwise-imp climbs differ c (λ x y k. let i = ltb-true (x / 2) (y / 2) k in rw (ne_eqb (x / 2) (y / 2) (omega arith))) h

    clashing : (z : ℕ) → (z ≡ opposite_of z) ⊎ (differ z (opposite_of z) ≡ true) → ⊥
    clashing z (inl e) = omega arith
    clashing z (inr e) = let q : z / 2 ≡ opposite_of z / 2 = omega arith in eqb-false (z / 2) (opposite_of z / 2) (not-true _ e) q

-- the variables of the literals ascend
from-ascend : (v : ℕ) (p : List ℕ) → pairwise climbs (cube_from v p) ≡ true
unfolding cube_from
from-ascend v [] = refl
from-ascend v (b ∷ t) = go (eqb b 49) (eqb b 48) (from-ascend (suc v) t)
  where
    first : (l : ℕ) → l / 2 ≡ v → all (climbs l) (cube_from (suc v) t) ≡ true
    first l e = all_in (climbs l) (cube_from (suc v) t) (λ y m. let r = from-bounds (suc v) t m in lt-ltb (l / 2) (y / 2) (omega arith))

    go : (x y : Bool) → pairwise climbs (cube_from (suc v) t) ≡ true
        → pairwise climbs (cond x ((2 * v) ∷ cube_from (suc v) t) (cond y ((2 * v + 1) ∷ cube_from (suc v) t) (cube_from (suc v) t))) ≡ true
    go true y k = together _ _ (first (2 * v) (omega arith)) k
    go false true k = together _ _ (first (2 * v + 1) (omega arith)) k
    go false false k = k

pub from-asc : (v : ℕ) (p : List ℕ) → asc (cube_from v p) ≡ true
from-asc v p = climbs-asc (cube_from v p) (from-ascend v p)

pub from-proper : (v : ℕ) (p : List ℕ) → proper (cube_from v p) ≡ true
from-proper v p = climbs-proper (cube_from v p) (from-ascend v p)
