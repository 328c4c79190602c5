-- Numbers and bytes as they are written in answers are read as those numbers and bytes. Assumes nothing.
use Rattle.std.proofs.Common.{◌≡◌, ℕ, zero, suc, ◌+◌, ◌-◌, ◌*◌, ◌/◌, ◌%◌, ◌^◌, ◌<◌, ◌≤◌, Bool, true, false, cond, ltb, List, [], ◌∷◌, ◌++◌, length, get_or, sym, refl, ap, ◌∙◌, pow-suc, arith, length-append, ltb-false, ltb-true, lt-ltb, le-leb}
use mathlib.Core.{Logic.inl, Logic.inr}
use Rattle.std.specs.Prelude.{None, Some}
use lib.ListN.{get_or-append}
use Rattle.sets.proofs.Truth.{decided}
use Rattle.io.specs.Digits.{hex_digit_ascii, last_digits, IsDigitCount}
use Rattle.drive_request.specs.Numbers.{digit_of, hex_after, well_led, number_of, pairs_of}
use Rattle.drive_request.proofs.Hexing.{digit-decimal, digit-letter, led-one, led-more}

-- ---- digits

digit_glyph : (d : ℕ) → d < 16 → digit_of (hex_digit_ascii d) ≡ d
digit_glyph d h = elim (decided (ltb d 10)) [
  | inl t ↦ rw t (digit-decimal (48 + d) (omega arith) (omega (arith, ltb-true d 10 t)) ∙ omega arith)
  | inr f ↦ rw f (digit-letter (87 + d) (omega (arith, ltb-false d 10 f)) (omega arith) ∙ omega arith)
]

digits-length : (k n : ℕ) → length (last_digits 16 k n) ≡ k
digits-length zero n = refl
digits-length (suc k) n = omega (arith, length-append (last_digits 16 k (n / 16)) (hex_digit_ascii (n % 16) ∷ []), digits-length k (n / 16))

-- a number of k digits more
quotient : (k n : ℕ) → n < 16 ^ suc k → n / 16 < 16 ^ k
quotient k n h = let e : n < 16 ^ k * 16 = rw (pow-suc 16 k) at h in omega arith

-- ---- what they write

hex-append : (s t : List ℕ) (m v : ℕ) → hex_after m s ≡ Some v → hex_after m (s ++ t) ≡ hex_after v t
unfolding hex_after
hex-append [] t m v h = let e : m ≡ v = cc in ap (λ k. hex_after k t) e
hex-append (b ∷ s) t m v h = go (ltb (digit_of b) 16) h (hex-append s t (16 * m + digit_of b) v)
  where
    go : (e : Bool) → cond e (hex_after (16 * m + digit_of b) s) None ≡ Some v
        → (hex_after (16 * m + digit_of b) s ≡ Some v → hex_after (16 * m + digit_of b) (s ++ t) ≡ hex_after v t)
        → cond e (hex_after (16 * m + digit_of b) (s ++ t)) None ≡ hex_after v t
    go true k f = f k
    go false k f = let z : ◌≡◌ {A = ℕ} 0 1 = cc in absurd (omega arith)

hex-digits : (k n : ℕ) → n < 16 ^ k → hex_after 0 (last_digits 16 k n) ≡ Some n
unfolding hex_after
hex-digits zero n h = let e : 0 ≡ n = omega arith in ap Some e
hex-digits (suc k) n h =
    let e : 16 * (n / 16) + n % 16 ≡ n = omega arith in
    hex-append (last_digits 16 k (n / 16)) (hex_digit_ascii (n % 16) ∷ []) 0 (n / 16) (hex-digits k (n / 16) (quotient k n h))
    ∙ rw (digit_glyph (n % 16) (omega arith), lt-ltb (n % 16) 16 (omega arith)) (ap Some e)

-- ---- no leading zero

glyph-zero : (d : ℕ) → hex_digit_ascii d ≡ 48 → d ≡ 0
glyph-zero d h = elim (decided (ltb d 10)) [
  | inl t ↦ let e : 48 + d ≡ 48 = rw t at h in omega arith
  | inr f ↦ let e : 87 + d ≡ 48 = rw f at h in absurd (omega arith)
]

digits-lead : (k n : ℕ) → 16 ^ k ≤ n → n < 16 ^ suc k → get_or (last_digits 16 (suc k) n) 0 0 ≡ 48 → ⊥
digits-lead zero n l h e = let z : n % 16 ≡ 0 = glyph-zero (n % 16) e in
    let q : n < 16 = omega (arith, h) in omega arith
digits-lead (suc k) n l h e =
    let m : 16 ^ k * 16 ≤ n = rw (pow-suc 16 k) at l in
    let p : 16 ^ k ≤ n / 16 = omega arith in
    let f = get_or-append (last_digits 16 (suc k) (n / 16)) (hex_digit_ascii (n % 16) ∷ []) 0 0 (omega (arith, digits-length (suc k) (n / 16))) in
    digits-lead k (n / 16) p (quotient (suc k) n h) (sym f ∙ e)

well-led : (n k : ℕ) → k ≤ 16 → IsDigitCount 16 1 n k → well_led (last_digits 16 k n) ≡ true
well-led n zero h f = absurd (omega (arith, f.0))
well-led n (suc zero) h f = led-one (last_digits 16 1 n) (omega arith) (omega arith)
well-led n (suc (suc j)) h f =
    let w = last_digits 16 (suc (suc j)) n in
    let e : suc (suc j) - 1 ≡ suc j = omega arith in
    let l : 16 ^ suc j ≤ n = rw e at (f.2 (omega arith)) in
    let m : length w ≡ suc (suc j) = digits-length (suc (suc j)) n in
    led-more w (omega (arith, m)) (digits-lead (suc j) n l f.1) ∙ le-leb (length w) 16 (omega (arith, m))

-- a number in its fewest digits is read as that number
pub number_read : (n k : ℕ) → k ≤ 16 → IsDigitCount 16 1 n k → number_of (last_digits 16 k n) ≡ Some n
unfolding number_of
number_read n k h f = rw (well-led n k h f) (hex-digits k n f.1)

-- a byte in two digits is read as that byte
pub byte-read : (b : ℕ) (t : List ℕ) → b < 256 → pairs_of (last_digits 16 2 b ++ t) ≡ Some b ∷ pairs_of t
unfolding pairs_of
byte-read b t h =
    let e : 16 * (b / 16 % 16) + b % 16 ≡ b = omega arith in
    rw (digit_glyph (b / 16 % 16) (omega arith), digit_glyph (b % 16) (omega arith), lt-ltb (b / 16 % 16) 16 (omega arith), lt-ltb (b % 16) 16 (omega arith))
    (ap (λ x. Some x ∷ pairs_of t) e)
