-- Numbers and bytes in hex, digit by digit, and how large they are. Assumes nothing.
use Prim.Native.Nat.{ℕ, ◌+◌, ◌-◌, ◌*◌, ◌^◌, ◌<◌, ◌≤◌, min}
use mathlib.Core.Path.{◌≡◌, refl, ap, ◌∙◌}
use mathlib.Core.Bool.{true, false, not}
use mathlib.Core.List.{List, [], ◌∷◌, ◌++◌}
use Rattle.std.specs.Prelude.{Option, None, Some}
use native.Mathlib.Nat.{pow-suc, pow-le-pow_right}
use native.Mathlib.Numerals.{add-one}
use native.Mathlib.Omega.{arith}
use lib.Dec.{eqb, leb, ltb}
use lib.ListN.{length, get_or, drop, drop_of_length-le}
use borrow.Author.Tests.{ltb-true, ltb-false, lt-ltb, le-ltb, le-leb, lt-leb, eq-eqb, ne_eqb, leb-true}
use mathlib.Core.Logic.{inl, inr}
use Rattle.sets.proofs.{Truth.both, Truth.decided, Places.drop-next}
use Rattle.drive_request.specs.Numbers.{digit_of, digit_in, hex_after, well_led, pairs_of, bytes_of}

-- ---- a digit

module _ (b : ℕ) where
  pub digit-below : b < 48 → digit_of b ≡ 16
  unfolding digit_of
  digit-below h = rw (lt-leb 48 b h, lt-leb 97 b (omega arith))

  pub digit-decimal : 48 ≤ b → b ≤ 57 → digit_of b ≡ b - 48
  unfolding digit_of
  digit-decimal h k = rw (le-leb 48 b h, le-leb b 57 k)

  pub digit-between : 57 < b → b < 97 → digit_of b ≡ 16
  unfolding digit_of
  digit-between h k = rw (lt-leb b 57 h, lt-leb 97 b k, le-leb 48 b (omega arith))

  pub digit-letter : 97 ≤ b → b ≤ 102 → digit_of b ≡ b - 87
  unfolding digit_of
  digit-letter h k = rw (lt-leb b 57 (omega arith), le-leb 48 b (omega arith), le-leb 97 b h, le-leb b 102 k)

  pub digit-above : 102 < b → digit_of b ≡ 16
  unfolding digit_of
  digit-above h = rw (lt-leb b 57 (omega arith), le-leb 48 b (omega arith), le-leb 97 b (omega arith), lt-leb b 102 h)

-- ---- a word's length and its first digit

pub led-none : (w : List ℕ) → length w < 1 → well_led w ≡ false
unfolding well_led
led-none [] h = refl
led-none (b ∷ w) h = absurd (omega arith)

pub led-one : (w : List ℕ) → 1 ≤ length w → length w < 2 → well_led w ≡ true
unfolding well_led
led-one [] h k = absurd (omega arith)
led-one (b ∷ []) h k = refl
led-one (b ∷ d ∷ w) h k = absurd (omega arith)

pub led-zero : (w : List ℕ) → 2 ≤ length w → get_or w 0 0 ≡ 48 → well_led w ≡ false
unfolding well_led
led-zero [] h e = absurd (omega arith)
led-zero (b ∷ []) h e = absurd (omega arith)
led-zero (b ∷ d ∷ w) h e = rw (eq-eqb b 48 e)

pub led-more : (w : List ℕ) → 2 ≤ length w → (get_or w 0 0 ≡ 48 → ⊥) → well_led w ≡ leb (length w) 16
unfolding well_led
led-more [] h e = absurd (omega arith)
led-more (b ∷ []) h e = absurd (omega arith)
led-more (b ∷ d ∷ w) h e = rw (ne_eqb b 48 e)

pub led-length : (w : List ℕ) → well_led w ≡ true → length w ≤ 16
unfolding well_led
led-length [] h = omega arith
led-length (b ∷ []) h = omega arith
led-length (b ∷ d ∷ w) h = leb-true (length (b ∷ d ∷ w)) 16 (both (not (eqb b 48)) (leb (length (b ∷ d ∷ w)) 16) h).1

-- ---- a number

module _ (w : List ℕ) (n i : ℕ) where
  pub hex-stop : i < length w → 15 < digit_of (get_or w i 0) → hex_after n (drop i w) ≡ None
  unfolding hex_after
  hex-stop h k = rw (drop-next w i 0 h, le-ltb (digit_of (get_or w i 0)) 16 (omega arith))

  pub hex-on : i < length w → digit_of (get_or w i 0) ≤ 15 → hex_after n (drop i w) ≡ hex_after (16 * n + digit_of (get_or w i 0)) (drop (i + 1) w)
  unfolding hex_after
  hex-on h k = rw (drop-next w i 0 h, lt-ltb (digit_of (get_or w i 0)) 16 (omega arith))

  pub hex-done : length w ≤ i → hex_after n (drop i w) ≡ Some n
  unfolding hex_after
  hex-done h = rw (drop_of_length-le w h)

-- a number of i digits, and one digit more
module _ (n d i : ℕ) (h : n < 16 ^ i) (k : d ≤ 15) where
  pub hex-grows : 16 * n + d < 16 ^ (i + 1)
  hex-grows = let e : 16 ^ (i + 1) ≡ 16 ^ i * 16 = ap (λ j. 16 ^ j) (add-one i) ∙ pow-suc 16 i in omega arith

  pub hex-fits : i < 16 → 16 * n + d < 18446744073709551616
  hex-fits l = let p : 16 ^ i ≤ 16 ^ 15 = pow-le-pow_right {n = 16} (omega arith) {i = i} {j = 15} (omega arith) in omega arith

-- ---- a digit as an option

pub digit_some : (b : ℕ) {d : ℕ} → Some d ≡ digit_in b → (digit_of b ≤ 15) × (d ≡ digit_of b)
digit_some b e = elim (decided (ltb (digit_of b) 16)) [
  | inl t ↦ let h = rw t at e in (omega (arith, ltb-true (digit_of b) 16 t), cc)
  | inr f ↦ let h = rw f at e in absurd (cc)
]

pub digit_none : (b : ℕ) → ◌≡◌ {A = Option ℕ} None (digit_in b) → 15 < digit_of b
digit_none b e = elim (decided (ltb (digit_of b) 16)) [
  | inl t ↦ let h = rw t at e in absurd (cc)
  | inr f ↦ omega (arith, ltb-false (digit_of b) 16 f)
]

-- ---- bytes: what is left begins with the piece x, and goes on with t

module _ (r x t : List ℕ) (e : r ≡ x ++ t) where
  pub pairs-odd : length x ≡ min 2 (length r) → 0 < length r → length x < 2 → pairs_of r ≡ None ∷ []
  unfolding pairs_of
  pairs-odd h k l = odd r (omega arith)
    where
      odd : (l : List ℕ) → length l ≡ 1 → pairs_of l ≡ None ∷ []
      odd [] z = absurd (omega arith)
      odd (a ∷ []) z = refl
      odd (a ∷ b ∷ l) z = absurd (omega arith)

  module _ (two : length x ≡ 2) where
    split : r ≡ get_or x 0 0 ∷ get_or x 1 0 ∷ t
    split = e ∙ pair x two
      where
        pair : (l : List ℕ) → length l ≡ 2 → l ++ t ≡ get_or l 0 0 ∷ get_or l 1 0 ∷ t
        pair [] z = absurd (omega arith)
        pair (a ∷ []) z = absurd (omega arith)
        pair (a ∷ b ∷ []) z = refl
        pair (a ∷ b ∷ d ∷ l) z = absurd (omega arith)

    pub pairs-left : 15 < digit_of (get_or x 0 0) → pairs_of r ≡ None ∷ pairs_of t
    unfolding pairs_of
    pairs-left h = rw (split, le-ltb (digit_of (get_or x 0 0)) 16 (omega arith))

    pub pairs-right : digit_of (get_or x 0 0) ≤ 15 → 15 < digit_of (get_or x 1 0) → pairs_of r ≡ None ∷ pairs_of t
    unfolding pairs_of
    pairs-right h k = rw (split, lt-ltb (digit_of (get_or x 0 0)) 16 (omega arith), le-ltb (digit_of (get_or x 1 0)) 16 (omega arith))

    pub pairs-byte : {a b : ℕ} → (digit_of (get_or x 0 0) ≤ 15) × (a ≡ digit_of (get_or x 0 0)) → (digit_of (get_or x 1 0) ≤ 15) × (b ≡ digit_of (get_or x 1 0))
        → pairs_of r ≡ Some (16 * a + b) ∷ pairs_of t
    unfolding pairs_of
    pairs-byte h k = rw (split, h.1, k.1, lt-ltb (digit_of (get_or x 0 0)) 16 (omega arith), lt-ltb (digit_of (get_or x 1 0)) 16 (omega arith))

pub pairs-done : (r : List ℕ) → length r ≡ 0 → pairs_of r ≡ []
unfolding pairs_of
pairs-done [] h = refl
pairs-done (a ∷ r) h = absurd (omega arith)

pub bytes-empty : (w : List ℕ) → length w < 1 → bytes_of w ≡ None ∷ []
unfolding bytes_of
bytes-empty [] h = refl
bytes-empty (a ∷ w) h = absurd (omega arith)

pub bytes-none : (w : List ℕ) → 1 ≤ length w → length w < 2 → get_or w 0 0 ≡ 45 → bytes_of w ≡ []
unfolding bytes_of
bytes-none [] h k e = absurd (omega arith)
bytes-none (a ∷ []) h k e = rw (eq-eqb a 45 e)
bytes-none (a ∷ b ∷ w) h k e = absurd (omega arith)

pub bytes-other : (w : List ℕ) → 1 ≤ length w → (length w < 2 → get_or w 0 0 ≡ 45 → ⊥) → bytes_of w ≡ pairs_of w
unfolding bytes_of pairs_of
bytes-other [] h k = absurd (omega arith)
bytes-other (a ∷ []) h k = rw (ne_eqb a 45 (k (omega arith)))
bytes-other (a ∷ b ∷ w) h k = refl
