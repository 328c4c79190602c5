-- Bits and the numbers they are worth, for every width: lengths, both round trips, joining and splitting. Assumes nothing.
use Prim.Native.Nat.{ℕ, zero, suc, ◌+◌, ◌-◌, ◌*◌, ◌/◌, ◌%◌, ◌^◌, ◌<◌}
use mathlib.Core.Path.{◌≡◌, refl, sym, ap, ap₂, ◌∙◌}
use mathlib.Core.Bool.{Bool, true, false, cond}
use mathlib.Core.List.{List, [], ◌∷◌, ◌++◌}
use native.Mathlib.Numerals.{one-add}
use native.Mathlib.Nat.{pow-suc, mod-eq_of_lt, mod-one, mod-lt, zero-lt-suc, le_of_suc-le-suc, not-suc-le-zero}
use native.Mathlib.Omega.{arith}
use lib.ListN.{length, get_or, take, replicate, length-append, length-replicate}
use lib.Seq.{take-suc}
use lib.Pow.{pow-add, mod-pow-add}
use Rattle.sets.specs.Masks.{bit, nonzero}
use Rattle.image_fields.specs.Fields.{bits_of, value_of}

pub bits-length : (w v : ℕ) → length (bits_of w v) ≡ w
unfolding bits_of
bits-length zero v = refl
bits-length (suc w) v = ap suc (bits-length w v)

pub value-lt : (l : List Bool) → value_of l < 2 ^ length l
unfolding value_of
value-lt [] = omega arith
value-lt (true ∷ l) = omega (arith, value-lt l, pow-suc 2 (length l))
value-lt (false ∷ l) = omega (arith, value-lt l, pow-suc 2 (length l))

-- ---- there and back

-- the number that a field of w bits keeps of v
value-mod : (w v : ℕ) → value_of (bits_of w v) ≡ v % 2 ^ w
unfolding bits_of value_of bit
value-mod zero v = sym (mod-one v)
value-mod (suc w) v =
    ap₂ ◌+◌ (ap (λ n. cond (bit v w) (2 ^ n) 0) (bits-length w v) ∙ top (v / 2 ^ w % 2) (mod-lt (v / 2 ^ w) (zero-lt-suc 1))) (value-mod w v)
    ∙ sym (mod-pow-add v 1 w) ∙ ap (λ n. v % 2 ^ n) (one-add w)
  where
    top : (d : ℕ) → d < 2 → cond (nonzero d) (2 ^ w) 0 ≡ d * 2 ^ w
    top zero h = omega arith
    top (suc zero) h = omega arith
    top (suc (suc d)) h = absurd (omega arith)

pub value-bits : (w v : ℕ) → v < 2 ^ w → value_of (bits_of w v) ≡ v
value-bits w v h = value-mod w v ∙ mod-eq_of_lt h

-- bits of one length that are worth the same are the same
value-injective : (l m : List Bool) → length l ≡ length m → value_of l ≡ value_of m → l ≡ m
unfolding value_of
value-injective [] [] e h = refl
value-injective [] (c ∷ m) e h = absurd (omega arith)
value-injective (b ∷ l) [] e h = absurd (omega arith)
value-injective (true ∷ l) (true ∷ m) e h =
    let n : length l ≡ length m = omega arith in
    ap (true ∷◌) (value-injective l m n (omega (arith, ap (λ k. 2 ^ k) n)))
value-injective (true ∷ l) (false ∷ m) e h =
    let n : length l ≡ length m = omega arith in absurd (omega (arith, ap (λ k. 2 ^ k) n, value-lt m))
value-injective (false ∷ l) (true ∷ m) e h =
    let n : length l ≡ length m = omega arith in absurd (omega (arith, ap (λ k. 2 ^ k) n, value-lt l))
value-injective (false ∷ l) (false ∷ m) e h = ap (false ∷◌) (value-injective l m (omega arith) (omega arith))

pub bits-value : (l : List Bool) → bits_of (length l) (value_of l) ≡ l
bits-value l =
    value-injective (bits_of (length l) (value_of l)) l (bits-length (length l) (value_of l)) (value-bits (length l) (value_of l) (value-lt l))

-- ---- joining and splitting

value-join : (l m : List Bool) → value_of (l ++ m) ≡ value_of l * 2 ^ length m + value_of m
unfolding value_of
value-join [] m = omega arith
value-join (true ∷ l) m = rw (length-append l m) (omega (arith, value-join l m, pow-add 2 (length l) (length m)))
value-join (false ∷ l) m = omega (arith, value-join l m)

-- one bit shifted in
pub value-append : (l : List Bool) (b : Bool) → value_of (l ++ (b ∷ [])) ≡ 2 * value_of l + cond b 1 0
unfolding value_of
value-append l b = value-join l (b ∷ []) ∙ omega arith

pub value-take : (k : ℕ) (l : List Bool) → k < length l → value_of (take (suc k) l) ≡ 2 * value_of (take k l) + cond (get_or l k false) 1 0
value-take k l h = ap value_of (take-suc l k false h) ∙ value-append (take k l) (get_or l k false)

pub value_none : (k : ℕ) → value_of (replicate k false) ≡ 0
unfolding value_of
value_none zero = refl
value_none (suc k) = omega (arith, value_none k)

-- zero bits after
pub value-zeros : (l : List Bool) (k : ℕ) → value_of (l ++ replicate k false) ≡ value_of l * 2 ^ k
value-zeros l k =
    value-join l (replicate k false) ∙ ap₂ ◌+◌ (ap (λ n. value_of l * 2 ^ n) (length-replicate k false)) (value_none k) ∙ omega arith

-- the bits by their places
pub bits_at : (w v i : ℕ) → i < w → get_or (bits_of w v) i false ≡ bit v (w - 1 - i)
unfolding bits_of
bits_at zero v i h = absurd (not-suc-le-zero h)
bits_at (suc w) v zero h = let e : w ≡ suc w - 1 - 0 = omega arith in ap (bit v) e
bits_at (suc w) v (suc i) h =
    let e : w - 1 - i ≡ suc w - 1 - suc i = omega arith in bits_at w v i (le_of_suc-le-suc h) ∙ ap (bit v) e
