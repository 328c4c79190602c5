-- The key of a divisor tells the divisor and its cost, and the program makes that key. Assumes nothing.
use Prim.Native.Nat.{ℕ, ◌+◌, ◌*◌, ◌/◌, ◌%◌, ◌<◌}
use mathlib.Core.Path.{◌≡◌, refl, sym, ap, ap₂, ◌∙◌}
use mathlib.Core.{Bool.true, Bool.false, Logic.inl, Logic.inr}
use mathlib.Core.List.{List, [], ◌∷◌}
use native.Mathlib.Omega.{arith}
use lib.Dec.{eqb, ltb}
use borrow.Author.Tests.{ltb-true, ltb-false, eq-eqb, ne_eqb}
use Rattle.sets.specs.{Lists.all, Sets.asc, Sets.apart, Sets.before}
use Rattle.sets.proofs.Truth.{both, decided}
use Rattle.cube.specs.Cube.{width}
use Rattle.extract_laws.specs.{Divisor.Divisor, Divisor.pair, Divisor.sum, Divisor.small, Extract.smaller_first}
use Rattle.extract_keys.specs.Keys.{part_code, two_codes, key_of, divisor_at, cost, cost_at, Plain}
use Rattle.extract_keys.proofs.Codes.{Part, part-shape, part-code, size-code, before-code, code_below}

-- ---- the two halves of a key

-- the halves of a pair's key are the same
record Pair (p q : ℕ) : Type 0 where
  below : q < 256
  high : key_of (pair p q) / 65536 ≡ 256 * p + q
  low : key_of (pair p q) % 65536 ≡ 256 * p + q

pair-halves : (p q : ℕ) → Plain (pair p q) → Pair p q
unfolding key_of
pair-halves p q w =
    let l = ltb-true p q w.whole in
    let i = (both (all (λ l. ltb l (2 * width)) (p ∷ q ∷ [])) true w.inside).0 in
    let m = ltb-true q (2 * width) (both (ltb q (2 * width)) true (both (ltb p (2 * width)) _ i).1).0 in
    record { below = omega arith; high = omega arith; low = omega arith }

-- the halves of a sum's key are the codes of its parts, and differ
record Sum (a b : List ℕ) : Type 0 where
  first : Part a
  second : Part b
  high : key_of (sum a b) / 65536 ≡ part_code a
  low : key_of (sum a b) % 65536 ≡ part_code b
  differ : eqb (part_code a) (part_code b) ≡ false

sum-halves : (a b : List ℕ) → Plain (sum a b) → Sum a b
unfolding key_of
sum-halves a b w =
    let s = both (asc a) _ w.whole in
    let t = both (asc b) _ s.1 in
    let d = both (apart a b) _ t.1 in
    let m = both (small a) _ d.1 in
    let n = both (small b) _ m.1 in
    let i = both (all (λ l. ltb l (2 * width)) a) _ w.inside in
    let j = (both (all (λ l. ltb l (2 * width)) b) true i.1).0 in
    let x = part-shape a s.0 m.0 i.0 in
    let y = part-shape b t.0 n.0 j in
    let l = ltb-true (part_code a) (part_code b) (sym (before-code x y d.0) ∙ n.1) in
    let k = code_below b j in
    record { first = x; second = y; high = omega arith; low = omega arith; differ = ne_eqb (part_code a) (part_code b) (omega arith) }

-- ---- the laws

-- the divisor of a divisor's key is that divisor
pub divisor-key : (d : Divisor) → Plain d → divisor_at (key_of d) ≡ d
unfolding divisor_at
divisor-key (pair p q) w =
    let h = pair-halves p q w in
    rw (h.high, h.low, eq-eqb (256 * p + q) (256 * p + q) refl) (ap₂ pair (omega arith) (omega arith))
divisor-key (sum a b) w =
    let h = sum-halves a b w in
    rw (h.high, h.low, h.differ) (ap₂ sum (part-code h.first) (part-code h.second))

-- so two plain divisors with one key are one
pub key_one : {d e : Divisor} → Plain d → Plain e → key_of d ≡ key_of e → d ≡ e
key_one {d = d} {e = e} h k i = sym (divisor-key d h) ∙ ap divisor_at i ∙ divisor-key e k

-- the cost of a key is that of its divisor
pub cost-key : (d : Divisor) → Plain d → cost_at (key_of d) ≡ cost d
unfolding cost_at
cost-key (pair p q) w = let h = pair-halves p q w in rw (h.high, h.low, eq-eqb (256 * p + q) (256 * p + q) refl)
cost-key (sum a b) w = let h = sum-halves a b w in rw (h.high, h.low, h.differ) (ap₂ ◌+◌ (size-code h.first) (size-code h.second))

-- the key of two parts is that of their sum, the smaller part first
pub two-key : (a b : List ℕ) → asc a ≡ true → asc b ≡ true → small a ≡ true → small b ≡ true → apart a b ≡ true
    → all (λ l. ltb l (2 * width)) a ≡ true → all (λ l. ltb l (2 * width)) b ≡ true
    → two_codes (part_code a) (part_code b) ≡ key_of (smaller_first a b)
unfolding two_codes key_of smaller_first
two-key a b s t m n d h k =
    let e = before-code (part-shape a s m h) (part-shape b t n k) d in
    elim (decided (before a b)) [
      | inl i ↦ rw i (omega (arith, ltb-true (part_code a) (part_code b) (sym e ∙ i)))
      | inr i ↦ rw i (omega (arith, ltb-false (part_code a) (part_code b) (sym e ∙ i)))
    ]

-- the key of a pair of literals of a cube, as the program makes it
pub pair-key-of : (p q : ℕ) → p < 2 * width → q < 2 * width → 65537 * (256 * (p % 256) + q % 256) ≡ key_of (pair p q)
unfolding key_of
pair-key-of p q h k = omega arith
