-- Bits and the bytes that they fill: lengths, both round trips, zero bits after, one bit more. Assumes nothing.
use Prim.Native.Nat.{ℕ, zero, suc, ◌+◌, ◌-◌, ◌*◌, ◌/◌, ◌%◌, ◌^◌, ◌<◌, ◌≤◌}
use mathlib.Core.Path.{◌≡◌, refl, sym, ap, ap₂, ◌∙◌}
use mathlib.Core.Logic.{inl, inr}
use mathlib.Core.Bool.{Bool, true, false, cond}
use mathlib.Core.List.Memᴰ
use mathlib.Core.List.Memᴰ.{head as here}
use mathlib.Core.List.Memᴰ.{tail as there}
use mathlib.Core.List.{List, [], ◌∷◌, ◌++◌, append_assoc, append-nil}
use native.Mathlib.Nat.{zero-add, pow-suc, le_of_suc-le-suc, not-suc-le-zero}
use native.Mathlib.Omega.{arith}
use borrow.Author.Tests.{ltb-true, ltb-false}
use lib.Dec.{ltb}
use lib.ListN.{length, get_or, take, drop, set, replicate, length-append, length-take, length-drop, length-replicate, take-append-drop}
use lib.ListN.{drop_of_length-le, replicate-append-replicate, get_or-append}
use lib.Seq.{take-append-le, drop-append-le, take_at, drop_at, take_all, get_or-append-add, get_or-drop, get_or_at, set_at}
use Rattle.sets.{specs.Masks.bit, proofs.Truth.decided, proofs.Lists.◌∈◌, proofs.Digits.bit-none}
use Rattle.image_fields.specs.Fields.{bits_of, value_of, bytes_for, bytes_from, bytes_of, bits_in}
use Rattle.image_fields.proofs.Bits.{bits-length, value-lt, value-bits, bits-value, value-append, value-take, value_none, value-zeros, bits_at}

-- ---- zero bits after the bits

zeros-take : (n k : ℕ) → n ≤ k → take n (replicate k false) ≡ replicate n false
zeros-take zero k h = refl
zeros-take (suc n) zero h = absurd (not-suc-le-zero h)
zeros-take (suc n) (suc k) h = ap (false ∷◌) (zeros-take n k (le_of_suc-le-suc h))

-- as many of the bits as there are, and zero bits for the others
take-zeros : (n : ℕ) (l : List Bool) (k : ℕ) → n ≤ length l + k → take n (l ++ replicate k false) ≡ take n l ++ replicate (n - length l) false
take-zeros zero l k h = let e : 0 ≡ 0 - length l = omega arith in ap (λ i. replicate i false) e
take-zeros (suc n) [] k h = let e : suc n ≡ suc n - 0 = omega arith in zeros-take (suc n) k (omega arith) ∙ ap (λ i. replicate i false) e
take-zeros (suc n) (b ∷ l) k h =
    let e : n - length l ≡ suc n - suc (length l) = omega arith in
    ap (b ∷◌) (take-zeros n l k (omega arith) ∙ ap (λ i. take n l ++ replicate i false) e)

-- the first byte's bits
head-bits : (l : List Bool) → take 8 (l ++ replicate 8 false) ≡ take 8 l ++ replicate (8 - length l) false
head-bits l = take-zeros 8 l 8 (omega arith)

head-length : (l : List Bool) → length (take 8 (l ++ replicate 8 false)) ≡ 8
head-length l = simp (length-take, length-append, length-replicate) (omega arith)

-- ---- lengths

pub from-length : (k : ℕ) (l : List Bool) → length (bytes_from k l) ≡ k
unfolding bytes_from
from-length zero l = refl
from-length (suc k) l = ap suc (from-length k (drop 8 l))

pub bytes-length : (l : List Bool) → length (bytes_of l) ≡ bytes_for (length l)
bytes-length l = from-length (bytes_for (length l)) l

pub bits-in-length : (bs : List ℕ) → length (bits_in bs) ≡ 8 * length bs
unfolding bits_in
bits-in-length [] = refl
bits-in-length (b ∷ bs) = length-append (bits_of 8 b) (bits_in bs) ∙ omega (arith, bits-length 8 b, bits-in-length bs)

pub bits-in-append : (a b : List ℕ) → bits_in (a ++ b) ≡ bits_in a ++ bits_in b
unfolding bits_in
bits-in-append [] b = refl
bits-in-append (x ∷ a) b = ap (bits_of 8 x ++◌) (bits-in-append a b) ∙ sym (append_assoc (bits_of 8 x) (bits_in a) (bits_in b))

-- ---- there and back

from_bits : (k : ℕ) (l : List Bool) → length l ≤ 8 * k → bits_in (bytes_from k l) ≡ l ++ replicate (8 * k - length l) false
unfolding bytes_from bits_in
from_bits zero [] h = refl
from_bits zero (b ∷ l) h = absurd (omega arith)
from_bits (suc k) l h =
    let n : length (drop 8 l) ≡ length l - 8 = length-drop 8 l in
    let e : (8 - length l) + (8 * k - (length l - 8)) ≡ 8 * suc k - length l = omega arith in
    ap₂ ◌++◌
    (ap (λ w. bits_of w (value_of (take 8 (l ++ replicate 8 false)))) (sym (head-length l)) ∙ bits-value (take 8 (l ++ replicate 8 false)) ∙ head-bits l)
    (from_bits k (drop 8 l) (omega arith) ∙ ap (λ i. drop 8 l ++ replicate (8 * k - i) false) n)
    ∙ elim (decided (ltb (length l) 8)) [
      | inl s ↦
          let b : length l < 8 = ltb-true (length l) 8 s in
          rw (take_all 8 l (omega arith), drop_of_length-le l {i = 8} (omega arith)) (append_assoc l (replicate (8 - length l) false) _)
      | inr s ↦
          let b : 8 ≤ length l = ltb-false (length l) 8 s in
          let z : 8 - length l ≡ 0 = omega arith in
          rw (z, append-nil) (sym (append_assoc (take 8 l) (drop 8 l) _) ∙ ap (◌++ replicate (8 * k - (length l - 8)) false) (take-append-drop 8 l))
    ]
    ∙ ap (l ++◌) (replicate-append-replicate (8 - length l) (8 * k - (length l - 8)) false ∙ ap (λ i. replicate i false) e)

pub bytes_bits : (l : List Bool) → bits_in (bytes_of l) ≡ l ++ replicate (8 * bytes_for (length l) - length l) false
bytes_bits l = from_bits (bytes_for (length l)) l (omega arith)

from_in : (bs : List ℕ) → ((b : ℕ) → b ∈ bs → b < 256) → bytes_from (length bs) (bits_in bs) ≡ bs
unfolding bytes_from bits_in
from_in [] h = refl
from_in (b ∷ bs) h =
    ap₂ ◌∷◌
    (ap (λ l. value_of (take 8 l)) (append_assoc (bits_of 8 b) (bits_in bs) (replicate 8 false))
    ∙ ap value_of (take_at (bits_of 8 b) (bits_in bs ++ replicate 8 false) 8 (bits-length 8 b)) ∙ value-bits 8 b (h b (here refl)))
    (ap (bytes_from (length bs)) (drop_at (bits_of 8 b) (bits_in bs) 8 (bits-length 8 b)) ∙ from_in bs (λ x m. h x (there m)))

pub bits-bytes : (bs : List ℕ) → ((b : ℕ) → b ∈ bs → b < 256) → bytes_of (bits_in bs) ≡ bs
bits-bytes bs h =
    let e : bytes_for (length (bits_in bs)) ≡ length bs = omega (arith, bits-in-length bs) in
    ap (λ k. bytes_from k (bits_in bs)) e ∙ from_in bs h

-- a byte is below 256
pub from-small : (k : ℕ) (l : List Bool) (b : ℕ) → b ∈ bytes_from k l → b < 256
unfolding bytes_from
from-small zero l b m = absurd (Memᴰ.not-nil m)
from-small (suc k) l b m = elim (Memᴰ.cases_cons m) [
  | inl e ↦ omega (arith, e, value-lt (take 8 (l ++ replicate 8 false)), ap (λ n. 2 ^ n) (head-length l))
  | inr t ↦ from-small k (drop 8 l) b t
]

-- bit i of bytes; past them none is set
bits-in-at : (bs : List ℕ) (i : ℕ) → get_or (bits_in bs) i false ≡ bit (get_or bs (i / 8) 0) (7 - i % 8)
unfolding bits_in
bits-in-at [] i = sym (bit-none (7 - i % 8))
bits-in-at (b ∷ bs) i = elim (decided (ltb i 8)) [
  | inl s ↦
      let h : i < 8 = ltb-true i 8 s in
      let q : i / 8 ≡ 0 = omega arith in
      let r : 8 - 1 - i ≡ 7 - i % 8 = omega arith in
      get_or-append (bits_of 8 b) (bits_in bs) false i (omega (arith, bits-length 8 b)) ∙ bits_at 8 b i h ∙ rw (q, r)
  | inr s ↦
      let h : 8 ≤ i = ltb-false i 8 s in
      let j : i ≡ length (bits_of 8 b) + (i - 8) = omega (arith, bits-length 8 b) in
      let q : i / 8 ≡ suc ((i - 8) / 8) = omega arith in
      let r : (i - 8) % 8 ≡ i % 8 = omega arith in
      ap (λ n. get_or (bits_of 8 b ++ bits_in bs) n false) j ∙ get_or-append-add (bits_of 8 b) (bits_in bs) (i - 8) false ∙ bits-in-at bs (i - 8) ∙ rw (q, r)
]

-- ---- zero bits after change nothing

filled : (l : List Bool) → bytes_of (l ++ replicate (8 * bytes_for (length l) - length l) false) ≡ bytes_of l
filled l = ap bytes_of (sym (bytes_bits l)) ∙ bits-bytes (bytes_of l) (from-small (bytes_for (length l)) l)

pub bytes-pad : (l : List Bool) (k : ℕ) → length l + k ≤ 8 * bytes_for (length l) → bytes_of (l ++ replicate k false) ≡ bytes_of l
bytes-pad l k h =
    let m = l ++ replicate k false in
    let n : length m ≡ length l + k = length-append l (replicate k false) ∙ ap (length l +◌) (length-replicate k false) in
    let e : k + (8 * bytes_for (length m) - length m) ≡ 8 * bytes_for (length l) - length l = omega arith in
    sym (filled m) ∙ ap bytes_of (append_assoc l (replicate k false) _ ∙ ap (l ++◌) (replicate-append-replicate k _ false ∙ ap (λ i. replicate i false) e))
    ∙ filled l

-- ---- one bit more, put at its place into the last byte

short-value : (l : List Bool) → length l ≤ 8 → value_of (take 8 (l ++ replicate 8 false)) ≡ value_of l * 2 ^ (8 - length l)
short-value l h =
    ap value_of (head-bits l ∙ ap (◌++ replicate (8 - length l) false) (take_all 8 l h)) ∙ value-zeros l (8 - length l)

one_more : (v p : ℕ) (b : Bool) → (2 * v + cond b 1 0) * p ≡ v * (p * 2) + cond b p 0
one_more v p true = omega arith
one_more v p false = omega arith

last_bit : (l : List Bool) (b : Bool) → length l < 8
    → value_of (take 8 ((l ++ (b ∷ [])) ++ replicate 8 false)) ≡ value_of (take 8 (l ++ replicate 8 false)) + cond b (2 ^ (7 - length l)) 0
last_bit l b h =
    let n : length (l ++ (b ∷ [])) ≡ length l + 1 = length-append l (b ∷ []) in
    let r : 8 - length (l ++ (b ∷ [])) ≡ 7 - length l = omega arith in
    let t : 8 - length l ≡ suc (7 - length l) = omega arith in
    short-value (l ++ (b ∷ [])) (omega arith) ∙ ap₂ (λ v k. v * 2 ^ k) (value-append l b) r
    ∙ rw (ap (λ k. 2 ^ k) t ∙ pow-suc 2 (7 - length l)) (one_more (value_of l) (2 ^ (7 - length l)) b)
    ∙ ap (◌+ cond b (2 ^ (7 - length l)) 0) (sym (short-value l (omega arith)))

-- in room for more bits, zero before
from_more : (n : ℕ) (l : List Bool) (b : Bool)
    → bytes_from n (l ++ (b ∷ [])) ≡ set (bytes_from n l) (length l / 8) (get_or (bytes_from n l) (length l / 8) 0 + cond b (2 ^ (7 - length l % 8)) 0)
unfolding bytes_from
from_more zero l b = refl
from_more (suc n) l b = elim (decided (ltb (length l) 8)) [
  | inl s ↦
      let h : length l < 8 = ltb-true (length l) 8 s in
      let q : length l / 8 ≡ 0 = omega arith in
      let r : length l % 8 ≡ length l = omega arith in
      rw (q, r)
      (ap₂ ◌∷◌ (last_bit l b h)
      (ap (bytes_from n) (drop_of_length-le (l ++ (b ∷ [])) {i = 8} (omega (arith, length-append l (b ∷ [])))
      ∙ sym (drop_of_length-le l {i = 8} (omega arith)))))
  | inr s ↦
      let h : 8 ≤ length l = ltb-false (length l) 8 s in
      let q : length l / 8 ≡ suc (length (drop 8 l) / 8) = omega (arith, length-drop 8 l) in
      let r : length l % 8 ≡ length (drop 8 l) % 8 = omega (arith, length-drop 8 l) in
      rw (q, r)
      (ap₂ ◌∷◌
      (ap value_of (ap (take 8) (append_assoc l (b ∷ []) (replicate 8 false)) ∙ take-append-le 8 l _ h ∙ sym (take-append-le 8 l (replicate 8 false) h)))
      (ap (bytes_from n) (drop-append-le 8 l (b ∷ []) h) ∙ from_more n (drop 8 l) b))
]

-- one byte more than the bits need is zero
from_next : (n : ℕ) (l : List Bool) → length l ≤ 8 * n → bytes_from (suc n) l ≡ bytes_from n l ++ (0 ∷ [])
unfolding bytes_from
from_next zero [] h = ap (◌∷ []) (value_none 8)
from_next zero (b ∷ l) h = absurd (omega arith)
from_next (suc n) l h = ap (value_of (take 8 (l ++ replicate 8 false)) ∷◌) (from_next n (drop 8 l) (omega (arith, length-drop 8 l)))

-- a new byte where the others are full
pub bytes-more-new : (l : List Bool) (b : Bool) → length l % 8 ≡ 0 → bytes_of (l ++ (b ∷ [])) ≡ bytes_of l ++ (cond b (2 ^ 7) 0 ∷ [])
bytes-more-new l b h =
    let e : bytes_for (length (l ++ (b ∷ []))) ≡ suc (length l / 8) = omega (arith, length-append l (b ∷ [])) in
    let n : bytes_for (length l) ≡ length l / 8 = omega arith in
    let k : length (bytes_from (length l / 8) l) ≡ length l / 8 = from-length (length l / 8) l in
    ap (λ i. bytes_from i (l ++ (b ∷ []))) e ∙ from_more (suc (length l / 8)) l b
    ∙ rw (from_next (length l / 8) l (omega arith), get_or_at (bytes_from (length l / 8) l) 0 [] 0 (length l / 8) k, h, n)
    (set_at (bytes_from (length l / 8) l) 0 [] (0 + cond b (2 ^ 7) 0) (length l / 8) k
    ∙ ap (λ x. bytes_from (length l / 8) l ++ (x ∷ [])) (zero-add (cond b (2 ^ 7) 0)))

-- else the last byte gets the bit
pub bytes-more-old : (l : List Bool) (b : Bool) → (length l % 8 ≡ 0 → ⊥)
    → bytes_of (l ++ (b ∷ [])) ≡ set (bytes_of l) (length l / 8) (get_or (bytes_of l) (length l / 8) 0 + cond b (2 ^ (7 - length l % 8)) 0)
bytes-more-old l b h =
    let e : bytes_for (length (l ++ (b ∷ []))) ≡ bytes_for (length l) = omega (arith, length-append l (b ∷ [])) in
    ap (λ i. bytes_from i (l ++ (b ∷ []))) e ∙ from_more (bytes_for (length l)) l b

-- ---- reading a field bit by bit from a place on

pub left-length : (bs : List ℕ) (at : ℕ) → length (drop at (bits_in bs)) ≡ 8 * length bs - at
left-length bs at = length-drop at (bits_in bs) ∙ ap (◌- at) (bits-in-length bs)

pub value-next : (bs : List ℕ) (at k : ℕ) → at + k < 8 * length bs
    → value_of (take (suc k) (drop at (bits_in bs))) ≡ 2 * value_of (take k (drop at (bits_in bs))) + cond (bit (get_or bs ((at + k) / 8) 0) (7 - (at + k) % 8)) 1 0
value-next bs at k h =
    value-take k (drop at (bits_in bs)) (omega (arith, left-length bs at))
    ∙ ap (λ b. 2 * value_of (take k (drop at (bits_in bs))) + cond b 1 0) (get_or-drop at (bits_in bs) k false ∙ bits-in-at bs (at + k))
