-- A bit of a mask: of what `|`, `&`, `^` and `!` give, of a power of two; masks with the same bits are equal. Assumes nothing.
use mathlib.Core.Path.{◌≡◌, refl, sym, ◌∙◌, ap}
use mathlib.Core.Bool.{Bool, true, false, not, ◌&&◌, ◌||◌, xor, and-false}
use mathlib.Core.Logic.{◌⊎◌, inl, inr, ⊎_elim}
use Prim.Native.Nat.{ℕ, zero, suc, ◌+◌, ◌-◌, ◌*◌, ◌/◌, ◌%◌, ◌^◌, ◌<◌, ◌≤◌}
use native.Mathlib.Nat.{mod-lt, div-one, zero-lt-suc, pow-suc, zero-div, not-suc-le-zero, le_of_suc-le-suc}
use native.Mathlib.Numerals.{one-add}
use native.Mathlib.Omega.{arith}
use borrow.Author.Tests.{eq-eqb, eqb-true, ne_eqb}
use lib.Dec.{eqb, eqb-zero-suc, eqb-suc-zero, eqb-suc-suc}
use lib.Arith.{lt-one}
use lib.Count.{count_trailing_zeros, under}
use lib.Pow.{shr-shr, pow_pos, shl_exact}
use lib.Bits.{bit_and, bit_or, bit_xor, and_le_r, and_shr, or_shr, xor_shr, and_mod, or_mod, xor_mod, and_mask}
use Rattle.sets.specs.Masks.{bit, nonzero}
use Rattle.sets.proofs.Truth.{decided}

-- ---- the lowest bit, and the others

pub bit-zero : (m : ℕ) → bit m 0 ≡ nonzero (m % 2)
unfolding bit
bit-zero m = ap (λ (x : ℕ). nonzero (x % 2)) (div-one m)

pub bit-suc : (m v : ℕ) → bit m (suc v) ≡ bit (m / 2) v
unfolding bit
bit-suc m v = ap (λ (x : ℕ). nonzero (x % 2)) (ap (λ (k : ℕ). m / 2 ^ k) (sym (one-add v)) ∙ sym (shr-shr m 1 v))

pub bit-shr : (m k v : ℕ) → bit (m / 2 ^ k) v ≡ bit m (k + v)
unfolding bit
bit-shr m k v = ap (λ (x : ℕ). nonzero (x % 2)) (shr-shr m k v)

pub bit-none : (v : ℕ) → bit 0 v ≡ false
unfolding bit
bit-none v = ap (λ (x : ℕ). nonzero (x % 2)) (zero-div (2 ^ v))

-- ---- the operations, bit by bit

binary : (x : ℕ) → x < 2 → (x ≡ 0) ⊎ (x ≡ 1)
binary zero h = inl refl
binary (suc zero) h = inr refl
binary (suc (suc x)) h = absurd (not-suc-le-zero (le_of_suc-le-suc (le_of_suc-le-suc h)))

module _ (op : ℕ → ℕ → ℕ) (f : Bool → Bool → Bool) (shr : (a b k : ℕ) → op a b / 2 ^ k ≡ op (a / 2 ^ k) (b / 2 ^ k))
    (rem : (a b k : ℕ) → op a b % 2 ^ k ≡ op (a % 2 ^ k) (b % 2 ^ k))
    (at00 : nonzero (op 0 0) ≡ f false false) (at01 : nonzero (op 0 1) ≡ f false true)
    (at10 : nonzero (op 1 0) ≡ f true false) (at11 : nonzero (op 1 1) ≡ f true true) where
  table : (x y : ℕ) → (x ≡ 0) ⊎ (x ≡ 1) → (y ≡ 0) ⊎ (y ≡ 1) → nonzero (op x y) ≡ f (nonzero x) (nonzero y)
  table x y (inl p) (inl q) = rw (p, q) at00
  table x y (inl p) (inr q) = rw (p, q) at01
  table x y (inr p) (inl q) = rw (p, q) at10
  table x y (inr p) (inr q) = rw (p, q) at11

  bit-op : (a b v : ℕ) → bit (op a b) v ≡ f (bit a v) (bit b v)
  unfolding bit
  bit-op a b v =
      ap (λ (x : ℕ). nonzero (x % 2)) (shr a b v) ∙ ap nonzero (rem (a / 2 ^ v) (b / 2 ^ v) 1)
      ∙ table (a / 2 ^ v % 2) (b / 2 ^ v % 2) (binary (a / 2 ^ v % 2) (mod-lt (a / 2 ^ v) (zero-lt-suc 1)))
      (binary (b / 2 ^ v % 2) (mod-lt (b / 2 ^ v) (zero-lt-suc 1)))

pub bit-or : (a b v : ℕ) → bit (bit_or a b) v ≡ (bit a v || bit b v)
bit-or = bit-op bit_or ◌||◌ or_shr or_mod refl refl refl refl

pub bit-and : (a b v : ℕ) → bit (bit_and a b) v ≡ (bit a v && bit b v)
bit-and = bit-op bit_and ◌&&◌ and_shr and_mod refl refl refl refl

pub bit-xor : (a b v : ℕ) → bit (bit_xor a b) v ≡ xor (bit a v) (bit b v)
unfolding xor
bit-xor = bit-op bit_xor xor xor_shr xor_mod refl refl refl refl

not_digit : (x y : ℕ) → (x ≡ 0) ⊎ (x ≡ 1) → y ≡ 1 - x → nonzero y ≡ not (nonzero x)
not_digit x y (inl p) e = rw (e, p)
not_digit x y (inr p) e = rw (e, p)

pub bit_not : (w a v : ℕ) → a < 2 ^ w → v < w → bit ((2 ^ w - 1) - a) v ≡ not (bit a v)
bit_not zero a v h b = absurd (not-suc-le-zero b)
bit_not (suc w) a zero h b =
    let e : 2 ^ suc w ≡ 2 ^ w * 2 = pow-suc 2 w in
    bit-zero ((2 ^ suc w - 1) - a)
    ∙ not_digit (a % 2) (((2 ^ suc w - 1) - a) % 2) (binary (a % 2) (mod-lt a (zero-lt-suc 1))) (omega arith)
    ∙ sym (ap not (bit-zero a))
bit_not (suc w) a (suc v) h b =
    let e : 2 ^ suc w ≡ 2 ^ w * 2 = pow-suc 2 w in
    let half : ((2 ^ suc w - 1) - a) / 2 ≡ (2 ^ w - 1) - a / 2 = omega arith in
    bit-suc ((2 ^ suc w - 1) - a) v ∙ ap (λ (x : ℕ). bit x v) half ∙ bit_not w (a / 2) v (omega arith) (le_of_suc-le-suc b)
    ∙ sym (ap not (bit-suc a v))

pub bit-pow : (k v : ℕ) → bit (2 ^ k) v ≡ eqb v k
bit-pow zero zero = bit-zero 1
bit-pow zero (suc v) = bit-suc 1 v ∙ bit-none v ∙ sym (eqb-suc-zero v)
bit-pow (suc k) zero =
    let e : 2 ^ suc k ≡ 2 ^ k * 2 = pow-suc 2 k in
    let z : 2 ^ suc k % 2 ≡ 0 = omega arith in
    bit-zero (2 ^ suc k) ∙ ap nonzero z ∙ sym (eqb-zero-suc k)
bit-pow (suc k) (suc v) =
    let e : 2 ^ suc k ≡ 2 ^ k * 2 = pow-suc 2 k in
    let z : 2 ^ suc k / 2 ≡ 2 ^ k = omega arith in
    bit-suc (2 ^ suc k) v ∙ ap (λ (x : ℕ). bit x v) z ∙ bit-pow k v ∙ sym (eqb-suc-suc v k)

-- ---- masks with the same bits are equal

same-digit : (x y : ℕ) → x < 2 → y < 2 → nonzero x ≡ nonzero y → x ≡ y
same-digit x y hx hy e =
    ⊎_elim
    (λ p. ⊎_elim (λ q. p ∙ sym q) (λ q. no_eq x y p q e) (binary y hy))
    (λ p. ⊎_elim (λ q. sym (no_eq y x q p (sym e))) (λ q. p ∙ sym q) (binary y hy))
    (binary x hx)
  where
    no_eq : (x y : ℕ) → x ≡ 0 → y ≡ 1 → nonzero x ≡ nonzero y → x ≡ y
    no_eq x y p q e = absurd (mathlib.Core.Bool.false≢true (ap nonzero (sym p) ∙ e ∙ ap nonzero q))

pub bits-ext : (w a b : ℕ) → a < 2 ^ w → b < 2 ^ w → ((v : ℕ) → v < w → bit a v ≡ bit b v) → a ≡ b
bits-ext zero a b ha hb h = lt-one ha ∙ sym (lt-one hb)
bits-ext (suc w) a b ha hb h =
    let e : 2 ^ suc w ≡ 2 ^ w * 2 = pow-suc 2 w in
    let lowest : a % 2 ≡ b % 2 =
    same-digit (a % 2) (b % 2) (mod-lt a (zero-lt-suc 1)) (mod-lt b (zero-lt-suc 1)) (sym (bit-zero a) ∙ h 0 (zero-lt-suc w) ∙ bit-zero b) in
    let others : a / 2 ≡ b / 2 =
    bits-ext w (a / 2) (b / 2) (omega arith) (omega arith) (λ v k. sym (bit-suc a v) ∙ h (suc v) (Prim.Native.Nat.suc-le-suc k) ∙ bit-suc b v) in
    omega arith

-- ---- as code tests a bit, and makes one

pub bit_test : (m v : ℕ) → eqb (bit_and (m / 2 ^ v) 1) 1 ≡ bit m v
unfolding bit
bit_test m v = ap (λ (x : ℕ). eqb x 1) (and_mask (m / 2 ^ v) 1) ∙ go (m / 2 ^ v % 2) (binary (m / 2 ^ v % 2) (mod-lt (m / 2 ^ v) (zero-lt-suc 1)))
  where
    go : (x : ℕ) → (x ≡ 0) ⊎ (x ≡ 1) → eqb x 1 ≡ nonzero x
    go x (inl e) = rw e
    go x (inr e) = rw e

pub shifted_one : (w v : ℕ) → v < w → (1 * 2 ^ v) % 2 ^ w ≡ 2 ^ v
shifted_one w v h = shl_exact 1 v w (Prim.Native.Nat.suc-le-suc (zero-lt-suc 0)) (omega arith) ∙ native.Mathlib.Nat.one-mul (2 ^ v)

-- ---- a mask is 0 where it has no bit

pub no_bits : (w m : ℕ) → m < 2 ^ w → ((v : ℕ) → v < w → bit m v ≡ false) → m ≡ 0
no_bits w m h f = bits-ext w m 0 h (pow_pos w) (λ v k. f v k ∙ sym (bit-none v))

-- `&` with a power of two
pub bit_mask : (m v : ℕ) → not (eqb (bit_and m (2 ^ v)) 0) ≡ bit m v
bit_mask m v = elim (decided (bit m v)) [
  | inl t ↦
      let there : bit (bit_and m (2 ^ v)) v ≡ true = only v ∙ rw (t, eq-eqb v v refl) in
      rw (ne_eqb (bit_and m (2 ^ v)) 0 (λ z. mathlib.Core.Bool.true≢false (sym there ∙ ap (λ (x : ℕ). bit x v) z ∙ bit-none v)), t)
  | inr f ↦
      let e : 2 ^ suc v ≡ 2 ^ v * 2 = pow-suc 2 v in
      rw (
        eq-eqb (bit_and m (2 ^ v)) 0 (no_bits (suc v) (bit_and m (2 ^ v)) (omega (arith, and_le_r m (2 ^ v), pow_pos v))
            (λ u h. only u ∙ elim (decided (eqb u v)) [
              | inl t ↦ ap (λ (x : ℕ). bit m x && eqb u v) (eqb-true u v t) ∙ rw f
              | inr t ↦ rw t (and-false (bit m u))
            ])),
        f,
      )
]
  where
    only : (u : ℕ) → bit (bit_and m (2 ^ v)) u ≡ (bit m u && eqb u v)
    only u = bit-and m (2 ^ v) u ∙ ap (λ (b : Bool). bit m u && b) (bit-pow v u)

-- a number below 2 ^ j has no bit from j on
pub bit_high : (j m v : ℕ) → m < 2 ^ j → j ≤ v → bit m v ≡ false
bit_high zero m v h b = ap (λ (x : ℕ). bit x v) (lt-one h) ∙ bit-none v
bit_high (suc j) m zero h b = absurd (not-suc-le-zero b)
bit_high (suc j) m (suc v) h b =
    let e : 2 ^ suc j ≡ 2 ^ j * 2 = pow-suc 2 j in bit-suc m v ∙ bit_high j (m / 2) v (omega arith) (le_of_suc-le-suc b)

-- ---- `trailing_zeros` is the place of the lowest bit

pub trailing-bit : (k m : ℕ) → (m ≡ 0 → ⊥) → m < 2 ^ k → bit m (count_trailing_zeros k m) ≡ true
unfolding count_trailing_zeros
trailing-bit zero m p h = absurd (p (lt-one h))
trailing-bit (suc k) m p h = go (m % 2) refl (trailing-bit k (m / 2))
  where
    go : (d : ℕ) → m % 2 ≡ d → ((m / 2 ≡ 0 → ⊥) → m / 2 < 2 ^ k → bit (m / 2) (count_trailing_zeros k (m / 2)) ≡ true)
        → bit m (under d (count_trailing_zeros k (m / 2))) ≡ true
    go zero e ih = let w : 2 ^ suc k ≡ 2 ^ k * 2 = pow-suc 2 k in bit-suc m (count_trailing_zeros k (m / 2)) ∙ ih (λ (z : m / 2 ≡ 0). p (omega arith)) (omega arith)
    go (suc d) e ih = bit-zero m ∙ ap nonzero e

pub trailing_below : (k m i : ℕ) → i < count_trailing_zeros k m → bit m i ≡ false
unfolding count_trailing_zeros
trailing_below zero m i h = absurd (not-suc-le-zero h)
trailing_below (suc k) m i h = go (m % 2) refl i h (trailing_below k (m / 2))
  where
    go : (d : ℕ) → m % 2 ≡ d → (i : ℕ) → i < under d (count_trailing_zeros k (m / 2)) → ((i : ℕ) → i < count_trailing_zeros k (m / 2) → bit (m / 2) i ≡ false)
        → bit m i ≡ false
    go zero e zero b ih = bit-zero m ∙ ap nonzero e
    go zero e (suc i) b ih = bit-suc m i ∙ ih i (le_of_suc-le-suc b)
    go (suc d) e i b ih = absurd (not-suc-le-zero b)

pub trailing_lt : (k m : ℕ) → (m ≡ 0 → ⊥) → m < 2 ^ k → count_trailing_zeros k m < k
trailing_lt k m p h =
    native.Mathlib.Nat.lt_of_not-le (λ (g : k ≤ count_trailing_zeros k m).
    mathlib.Core.Bool.true≢false (sym (trailing-bit k m p h) ∙ bit_high k m (count_trailing_zeros k m) h g))
