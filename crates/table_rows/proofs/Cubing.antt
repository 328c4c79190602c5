-- The cube line: its cube is made place by place, its mask mark by mark. Assumes nothing.
use Prim.Native.Nat.{ℕ, suc, ◌+◌, ◌*◌, ◌%◌, ◌^◌, ◌<◌, ◌≤◌}
use mathlib.Core.Path.{◌≡◌, refl, sym, ◌∙◌, ap}
use mathlib.Core.Bool.{Bool, true, false, cond, false≢true}
use mathlib.Core.List.{List, [], ◌∷◌, ◌++◌, map, append-nil}
use mathlib.Core.List.{reverse}
use mir.Val.{bool_byte}
use Rattle.std.proofs.lemmas.List.{reverse-append}
use native.Mathlib.Numerals.{add-one}
use native.Mathlib.Omega.{arith}
use lib.Dec.{eqb, ltb}
use lib.ListN.{length, get_or, take, length-map}
use lib.Pow.{pow_mono}
use lib.Seq.{take-suc, length-take-le}
use borrow.Author.Tests.{eq-eqb, ne_eqb, lt-ltb, ltb-true, eqb-true}
use Rattle.sets.{specs.Lists.all, specs.Sets.insert, specs.Masks.packed, proofs.Packing.packed_lt}
use Rattle.sets.proofs.Truth.{both, Stand, below, equal, beyond, compared}
use Rattle.sets.proofs.Lists.{all_in, all-out}
use Rattle.cube.specs.Cube.{width, joined}
use Rattle.table_rows.{specs.Lines.most_places, specs.Lines.cube_from, specs.Parts.placed, proofs.Covering.from-bounds}

-- ---- one literal more

-- a number above all others goes last
pub insert-last : (l : ℕ) (c : List ℕ) → all (λ x. ltb x l) c ≡ true → insert l c ≡ c ++ (l ∷ [])
unfolding insert
insert-last l [] h = refl
insert-last l (x ∷ c) h = go (compared l x) (insert-last l c (both (ltb x l) (all (λ y. ltb y l) c) h).1) (both (ltb x l) (all (λ y. ltb y l) c) h).0
  where
    go : Stand l x → insert l c ≡ c ++ (l ∷ []) → ltb x l ≡ true → cond (ltb l x) (l ∷ x ∷ c) (cond (eqb l x) (x ∷ c) (x ∷ insert l c)) ≡ x ∷ (c ++ (l ∷ []))
    go (below p q r) e k = absurd (omega (arith, ltb-true x l k))
    go (equal p q r) e k = absurd (omega (arith, ltb-true x l k))
    go (beyond p q r) e k = rw (q, r, e)

-- the literals of places one after the other
pub from-append : (v : ℕ) (p q : List ℕ) → cube_from v (p ++ q) ≡ cube_from v p ++ cube_from (v + length p) q
unfolding cube_from
from-append v [] q = ap (λ (u : ℕ). cube_from u q) (omega arith)
from-append v (b ∷ p) q = go (eqb b 49) (eqb b 48) (from-append (suc v) p q ∙ ap (λ (u : ℕ). cube_from (suc v) p ++ cube_from u q) (omega arith))
  where
    go : (x y : Bool) → cube_from (suc v) (p ++ q) ≡ cube_from (suc v) p ++ cube_from (v + suc (length p)) q
        → cond x ((2 * v) ∷ cube_from (suc v) (p ++ q)) (cond y ((2 * v + 1) ∷ cube_from (suc v) (p ++ q)) (cube_from (suc v) (p ++ q)))
        ≡ cond x ((2 * v) ∷ cube_from (suc v) p) (cond y ((2 * v + 1) ∷ cube_from (suc v) p) (cube_from (suc v) p)) ++ cube_from (v + suc (length p)) q
    go true y e = rw e
    go false true e = rw e
    go false false e = e

-- a literal above all others is joined last
joined-last : (l : ℕ) (c : List ℕ) → l < 2 * width → all (λ x. ltb x l) c ≡ true → joined l c ≡ c ++ (l ∷ [])
joined-last l c h k = rw (lt-ltb l (2 * width) h) (insert-last l c k)

-- the literal of the next place goes last
pub placed-last : (v b : ℕ) (c : List ℕ) → v < width → all (λ x. ltb x (2 * v)) c ≡ true → placed v b c ≡ c ++ cube_from v (b ∷ [])
unfolding placed cube_from
placed-last v b c h k = go (eqb b 49) (eqb b 48)
  where
    higher : all (λ x. ltb x (2 * v + 1)) c ≡ true
    higher = all_in (λ x. ltb x (2 * v + 1)) c (λ x m. let q = ltb-true x (2 * v) (all-out (λ x. ltb x (2 * v)) m k) in lt-ltb x (2 * v + 1) (omega arith))

    go : (x y : Bool) → cond x (joined (2 * v) c) (cond y (joined (2 * v + 1) c) c) ≡ c ++ cond x ((2 * v) ∷ []) (cond y ((2 * v + 1) ∷ []) [])
    go true y = joined-last (2 * v) c (omega arith) k
    go false true = joined-last (2 * v + 1) c (omega arith) higher
    go false false = sym (append-nil c)

pub from_next : (p : List ℕ) (i : ℕ) → i < length p → i < width → cube_from 0 (take (i + 1) p) ≡ placed i (get_or p i 0) (cube_from 0 (take i p))
from_next p i h k =
    let n : length (take i p) ≡ i = length-take-le i p (omega arith) in
    let u : 0 + length (take i p) ≡ i = omega arith in
    let low : all (λ x. ltb x (2 * i)) (cube_from 0 (take i p)) ≡ true =
    all_in (λ x. ltb x (2 * i)) (cube_from 0 (take i p)) (λ x m. let q = from-bounds 0 (take i p) m in lt-ltb x (2 * i) (omega arith)) in
    ap (cube_from 0) (ap (λ (j : ℕ). take j p) (add-one i) ∙ take-suc p i 0 h)
    ∙ from-append 0 (take i p) (get_or p i 0 ∷ [])
    ∙ ap (λ (j : ℕ). cube_from 0 (take i p) ++ cube_from j (get_or p i 0 ∷ [])) u
    ∙ sym (placed-last i (get_or p i 0) (cube_from 0 (take i p)) k low)

-- a place's literal, as the words hold it
module _ (v b l : ℕ) (c : List ℕ) (h : v < width) where
  pub placed-plain : b ≡ 49 → l ≡ 2 * v % 4294967296 → joined l c ≡ placed v b c
  unfolding placed
  placed-plain e q = let r : l ≡ 2 * v = omega arith in rw (r, e)

  pub placed-negated : (b ≡ 49 → ⊥) → b ≡ 48 → l ≡ (2 * v + 1) % 4294967296 → joined l c ≡ placed v b c
  unfolding placed
  placed-negated f e q = let r : l ≡ 2 * v + 1 = omega arith in rw (r, e)

pub placed-either : (v b : ℕ) (c : List ℕ) → (b ≡ 49 → ⊥) → (b ≡ 48 → ⊥) → c ≡ placed v b c
unfolding placed
placed-either v b c f g = rw (ne_eqb b 49 f, ne_eqb b 48 g)

-- ---- one mark more

pub marks-next : (l : List ℕ) (b : ℕ) → packed (map (eqb 49) (reverse (l ++ (b ∷ [])))) ≡ 2 * packed (map (eqb 49) (reverse l)) + bool_byte (eqb b 49)
unfolding packed
marks-next l b = rw (reverse-append l (b ∷ [])) (go (eqb b 49) refl)
  where
    go : (e : Bool) → eqb b 49 ≡ e → cond (eqb 49 b) 1 0 + 2 * packed (map (eqb 49) (reverse l)) ≡ 2 * packed (map (eqb 49) (reverse l)) + bool_byte e
    go true e = rw (eqb-true b 49 e) (omega arith)
    go false e = rw (ne_eqb 49 b (λ q. false≢true (sym e ∙ eq-eqb b 49 (sym q)))) (omega arith)

-- few marks make a small mask
pub marks-lt : (l : List ℕ) → length l ≤ most_places → packed (map (eqb 49) l) < 2 ^ most_places
marks-lt l h = let n : length (map (eqb 49) l) ≤ most_places = simp length-map h in omega (arith, packed_lt (map (eqb 49) l), pow_mono n)
