-- The codes of parts: how the program makes them, and that they tell the part, its size and its place in cube order. Assumes nothing.
use Prim.Native.Nat.{ℕ, ◌+◌, ◌*◌, ◌/◌, ◌%◌, ◌<◌, ◌≤◌}
use mathlib.Core.Path.{◌≡◌, refl}
use mathlib.Core.Bool.{true, ◌&&◌}
use mathlib.Core.List.{List, [], ◌∷◌}
use mathlib.Core.Option.{some}
use native.Mathlib.Omega.{arith}
use lib.Dec.{ltb}
use lib.ListN.{length}
use borrow.Author.Tests.{ltb-true, lt-ltb, le-ltb, le-leb, lt-leb, eq-eqb, ne_eqb}
use Rattle.sets.specs.Lists.{all, or_else}
use Rattle.sets.specs.Sets.{asc, apart, insert, before, first_from}
use Rattle.sets.proofs.{Sets.all-mem, Sets.mem-head, Sets.apart_out}
use Rattle.sets.proofs.Truth.{both, clash, below, equal, beyond, compared}
use Rattle.cube.specs.{Cube.width, Cube.lits, declared.Cube.Cube}
use Rattle.cube.proofs.Lits.{lits-inside}
use Rattle.extract_laws.specs.Divisor.{small}
use Rattle.extract_keys.specs.Keys.{part_code, part_of, size_at}

-- ---- the code of a cube

-- the first literal, then the next one or else the first again, make the code
pub first_two : (a : List ℕ) (p q : ℕ) → asc a ≡ true → some p ≡ or_else (first_from 0 a) (some 0)
    → some q ≡ or_else (first_from (p + 1) a) (some p) → 256 * p + q ≡ part_code a
unfolding first_from part_code
first_two [] p q s e f = let i : p ≡ 0 = cc in let j : q ≡ p = cc in omega arith
first_two (x ∷ []) p q s e f =
    let i : p ≡ x = cc (rw (le-leb 0 x (omega arith)) at e) in
    let j : q ≡ p = cc (rw (lt-leb (p + 1) x (omega arith)) at f) in
    omega arith
first_two (x ∷ y ∷ l) p q s e f =
    let i : p ≡ x = cc (rw (le-leb 0 x (omega arith)) at e) in
    let n = ltb-true x y (both (ltb x y) _ (both (ltb x y && _) _ s).0).0 in
    let j : q ≡ y = cc (rw (lt-leb (p + 1) x (omega arith), le-leb (p + 1) y (omega arith)) at f) in
    omega arith

-- a code has 15 bits
pub code_below : (a : List ℕ) → all (λ l. ltb l (2 * width)) a ≡ true → part_code a < 32768
unfolding part_code
code_below [] h = omega arith
code_below (p ∷ []) h = omega (arith, ltb-true p (2 * width) (both (ltb p (2 * width)) true h).0)
code_below (p ∷ q ∷ l) h =
    let k = both (ltb p (2 * width)) _ h in
    omega (arith, ltb-true p (2 * width) k.0, ltb-true q (2 * width) (both (ltb q (2 * width)) _ k.1).0)

-- so has a cube's
pub cube-code-below : (c : Cube) → part_code (lits c) < 32768
cube-code-below c = code_below (lits c) (all-mem (λ l. ltb l (2 * width)) (lits c) (λ z m. lt-ltb z (2 * width) (lits-inside c z m)))

-- ---- parts

-- one or two literals, ascending, that a cube can have
pub data Part : List ℕ → Type 0 where
  one : {p : ℕ} → p < 2 * width → Part (p ∷ [])
  two : {p q : ℕ} → p < q → q < 2 * width → Part (p ∷ q ∷ [])

pub part-shape : (a : List ℕ) → asc a ≡ true → small a ≡ true → all (λ l. ltb l (2 * width)) a ≡ true → Part a
unfolding small
part-shape [] s m h = clash m refl
part-shape (p ∷ []) s m h = one (ltb-true p (2 * width) (both (ltb p (2 * width)) true h).0)
part-shape (p ∷ q ∷ []) s m h =
    two (ltb-true p q (both (ltb p q) true (both (ltb p q && true) true s).0).0)
    (ltb-true q (2 * width) (both (ltb q (2 * width)) true (both (ltb p (2 * width)) _ h).1).0)
part-shape (p ∷ q ∷ r ∷ l) s m h =
    let n = length (p ∷ q ∷ r ∷ l) in
    let k : n < 3 = ltb-true n 3 (both (ltb 0 n) (ltb n 3) m).1 in
    absurd (omega arith)

-- the code of a part tells the part
pub part-code : {a : List ℕ} → Part a → part_of (part_code a) ≡ a
unfolding part_of part_code insert
part-code (one {p = p} h) =
    let i : (256 * p + p) % 256 ≡ p = omega arith in
    let j : (256 * p + p) / 256 ≡ p = omega arith in
    rw (i, j, lt-ltb p (2 * width) (omega arith), le-ltb p p (omega arith), eq-eqb p p refl)
part-code (two {p = p} {q = q} h k) =
    let i : (256 * p + q) % 256 ≡ q = omega arith in
    let j : (256 * p + q) / 256 ≡ p = omega arith in
    rw (i, j, lt-ltb p (2 * width) (omega arith), lt-ltb q (2 * width) (omega arith), le-ltb q p (omega arith), ne_eqb q p (omega arith))

-- and its size
pub size-code : {a : List ℕ} → Part a → size_at (part_code a) ≡ length a
unfolding size_at part_code
size-code (one {p = p} h) = rw (eq-eqb ((256 * p + p) / 256) ((256 * p + p) % 256) (omega arith))
size-code (two {p = p} {q = q} h k) = rw (ne_eqb ((256 * p + q) / 256) ((256 * p + q) % 256) (omega arith))

-- the first literal leads the code
code-led : {p : ℕ} {l : List ℕ} → Part (p ∷ l) → (256 * p ≤ part_code (p ∷ l)) × (part_code (p ∷ l) < 256 * p + 256)
unfolding part_code
code-led (one h) = (omega arith, omega arith)
code-led (two h k) = (omega arith, omega arith)

-- parts that share no literal stand in cube order as their codes do: their first literals decide
pub before-code : {a b : List ℕ} → Part a → Part b → apart a b ≡ true → before a b ≡ ltb (part_code a) (part_code b)
unfolding before
before-code s t h = go s t h
  where
    led : {p r : ℕ} {l m : List ℕ} → Part (p ∷ l) → Part (r ∷ m) → apart (p ∷ l) (r ∷ m) ≡ true
        → before (p ∷ l) (r ∷ m) ≡ ltb (part_code (p ∷ l)) (part_code (r ∷ m))
    led {p = p} {r = r} {l = l} {m = m} s t h = let u = code-led s in let v = code-led t in elim (compared p r) [
      | below g i j ↦ rw (i, lt-ltb (part_code (p ∷ l)) (part_code (r ∷ m)) (omega arith))
      | equal g i j ↦ clash (rw (← g) (mem-head p m)) (apart_out (p ∷ l) (r ∷ m) p h (mem-head p l))
      | beyond g i j ↦ rw (i, lt-ltb r p g, le-ltb (part_code (p ∷ l)) (part_code (r ∷ m)) (omega arith))
    ]

    go : {a b : List ℕ} → Part a → Part b → apart a b ≡ true → before a b ≡ ltb (part_code a) (part_code b)
    go (one i) (one j) h = led (one i) (one j) h
    go (one i) (two j k) h = led (one i) (two j k) h
    go (two i k) (one j) h = led (two i k) (one j) h
    go (two i k) (two j l) h = led (two i k) (two j l) h
