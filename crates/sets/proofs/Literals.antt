-- The literals of two masks, for every width: the bit test, the order, what the mask operations do to them, and how many there are. Assumes nothing.
use mathlib.Core.Path.{◌≡◌, refl, sym, ◌∙◌, ap, ap₂, subst}
use mathlib.Core.Bool.{Bool, true, false, not, cond, ◌&&◌, ◌||◌, xor, and-or_distrib_left, and-false, or_comm}
use mathlib.Core.List.{List, [], ◌∷◌}
use mathlib.Core.Logic.{◌⊎◌, inl, inr}
use Prim.Native.Nat.{ℕ, zero, suc, ◌+◌, ◌-◌, ◌*◌, ◌/◌, ◌%◌, ◌^◌, ◌<◌, ◌≤◌}
use native.Mathlib.Nat.{mod-lt, zero-lt-suc, zero-add, pow-suc, div-one}
use native.Mathlib.Numerals.{add-one}
use native.Mathlib.Omega.{arith}
use lib.Dec.{eqb, ltb, leb-zero}
use lib.ListN.{length}
use lib.Count.{ones, ones_step}
use lib.Bits.{bit_and, bit_or, bit_xor, and_lt, or_lt, and_zero_r, or_zero_l, or_zero_r}
use lib.Pow.{shr-shr}
use lib.Arith.{lt-one}
use borrow.Author.Tests.{eqb-true, eqb-false, ltb-true, eq-eqb, ne_eqb, lt-ltb, le-ltb}
use Rattle.sets.specs.Lists.{keep, from, is_nil}
use Rattle.sets.specs.Literal.{opposite_of}
use Rattle.sets.specs.Sets.{mem, asc, proper, insert, union, without, meet, same}
use Rattle.sets.specs.Masks.{bit, nonzero, side, test, literals, single}
use Rattle.sets.proofs.Truth.{iff, both, together, or_left, or_right, decided, clash, refuted}
use Rattle.sets.proofs.{Lists.keep-length, Lists.pairwise-keep, Rows.from-length}
use Rattle.sets.proofs.Sets.{keep-mem, from-mem, from-asc, insert-mem, union-mem, without-mem, meet-mem, insert-asc, union-asc, without-asc}
use Rattle.sets.proofs.Sets.{meet-asc, ext, nil-mem, mem-nil, same-eq, eq-same, proper-in, proper-out}
use Rattle.sets.proofs.Digits.{bit-or, bit-and, bit-xor, bit_not, bit-pow, bits-ext, bit-none, no_bits, bit_mask}

-- ---- the bit test

pub literals-mem : (w p n l : ℕ) → mem l (literals w p n) ≡ (ltb l (2 * w) && test p n l)
unfolding literals
literals-mem w p n l = keep-mem (test p n) l (from 0 (2 * w)) ∙ rw (from-mem 0 (2 * w) l, leb-zero l, zero-add (2 * w))

pub literals-asc : (w p n : ℕ) → asc (literals w p n) ≡ true
unfolding literals
literals-asc w p n = pairwise-keep ltb (test p n) (from 0 (2 * w)) (from-asc 0 (2 * w))

pub mem-inside : (w p n l : ℕ) → mem l (literals w p n) ≡ true → l < 2 * w
mem-inside w p n l m = ltb-true l (2 * w) (both (ltb l (2 * w)) (test p n l) (sym (literals-mem w p n l) ∙ m)).0

pub mem-wide : (w p n l : ℕ) → w ≤ l / 2 → mem l (literals w p n) ≡ false
mem-wide w p n l h = literals-mem w p n l ∙ rw (le-ltb l (2 * w) (omega arith))

-- by the polarity, as code asks
module _ (w p n l : ℕ) (h : l / 2 < w) where
  pub mem-even : l % 2 ≡ 0 → mem l (literals w p n) ≡ bit p (l / 2)
  unfolding test
  mem-even e = literals-mem w p n l ∙ rw (lt-ltb l (2 * w) (omega arith), e)

  pub mem-odd : (l % 2 ≡ 0 → ⊥) → mem l (literals w p n) ≡ bit n (l / 2)
  unfolding test
  mem-odd e = let o : l % 2 ≡ 1 = omega arith in literals-mem w p n l ∙ rw (lt-ltb l (2 * w) (omega arith), o)

-- by the variable
module _ (w p n v : ℕ) (h : v < w) where
  pub mem-plain : mem (2 * v) (literals w p n) ≡ bit p v
  mem-plain = let q : 2 * v / 2 ≡ v = omega arith in mem-even w p n (2 * v) (omega arith) (omega arith) ∙ ap (bit p) q

  pub mem-negated : mem (2 * v + 1) (literals w p n) ≡ bit n v
  mem-negated = let q : (2 * v + 1) / 2 ≡ v = omega arith in mem-odd w p n (2 * v + 1) (omega arith) (λ e. omega arith) ∙ ap (bit n) q

-- ---- the masks are known from the literals

pub plain-injective : (w p n q m : ℕ) → p < 2 ^ w → q < 2 ^ w → literals w p n ≡ literals w q m → p ≡ q
plain-injective w p n q m hp hq e =
    bits-ext w p q hp hq (λ v h. sym (mem-plain w p n v h) ∙ ap (mem (2 * v)) e ∙ mem-plain w q m v h)

pub negated-injective : (w p n q m : ℕ) → n < 2 ^ w → m < 2 ^ w → literals w p n ≡ literals w q m → n ≡ m
negated-injective w p n q m hn hm e =
    bits-ext w n m hn hm (λ v h. sym (mem-negated w p n v h) ∙ ap (mem (2 * v + 1)) e ∙ mem-negated w q m v h)

-- ---- the operations on masks

-- an operation on masks that is a table of bits, literal by literal
module _ (op : ℕ → ℕ → ℕ) (f : Bool → Bool → Bool) (law : (a b v : ℕ) → bit (op a b) v ≡ f (bit a v) (bit b v)) where
  op-test : (p n q m l : ℕ) → test (op p q) (op n m) l ≡ f (test p n l) (test q m l)
  unfolding test
  op-test p n q m l = go (l % 2)
    where
      go : (s : ℕ) → bit (side s (op p q) (op n m)) (l / 2) ≡ f (bit (side s p n) (l / 2)) (bit (side s q m) (l / 2))
      go zero = law p q (l / 2)
      go (suc s) = law n m (l / 2)

  -- the table keeps a test that both masks pass
  op-mem : ((k a b : Bool) → (k && f a b) ≡ f (k && a) (k && b)) → (w p n q m l : ℕ)
      → mem l (literals w (op p q) (op n m)) ≡ f (mem l (literals w p n)) (mem l (literals w q m))
  op-mem g w p n q m l =
      literals-mem w (op p q) (op n m) l ∙ ap (λ (b : Bool). ltb l (2 * w) && b) (op-test p n q m l) ∙ g (ltb l (2 * w)) (test p n l) (test q m l)
      ∙ ap₂ f (sym (literals-mem w p n l)) (sym (literals-mem w q m l))

pub literals-union : (w p n q m : ℕ) → literals w (bit_or p q) (bit_or n m) ≡ union (literals w p n) (literals w q m)
literals-union w p n q m =
    ext _ _ (literals-asc w (bit_or p q) (bit_or n m)) (union-asc (literals w p n) (literals w q m) (literals-asc w q m))
    (λ l. op-mem bit_or ◌||◌ bit-or and-or_distrib_left w p n q m l ∙ sym (union-mem l (literals w p n) (literals w q m)))

pub literals-meet : (w p n q m : ℕ) → literals w (bit_and p q) (bit_and n m) ≡ meet (literals w p n) (literals w q m)
literals-meet w p n q m =
    ext _ _ (literals-asc w (bit_and p q) (bit_and n m)) (meet-asc (literals w p n) (literals w q m) (literals-asc w p n))
    (λ l. op-mem bit_and ◌&&◌ bit-and inside w p n q m l ∙ sym (meet-mem l (literals w p n) (literals w q m)))
  where
    inside : (k a b : Bool) → (k && (a && b)) ≡ ((k && a) && (k && b))
    inside true a b = refl
    inside false a b = refl

-- the literals of exactly one of the two
pub mem-xor : (w p n q m l : ℕ) → mem l (literals w (bit_xor p q) (bit_xor n m)) ≡ xor (mem l (literals w p n)) (mem l (literals w q m))
unfolding xor
mem-xor = op-mem bit_xor xor bit-xor inside
  where
    inside : (k a b : Bool) → (k && xor a b) ≡ xor (k && a) (k && b)
    inside true a b = refl
    inside false a b = refl

-- `!q` is 2 ^ w - 1 - q: the literals of the width that q lacks
not_test : (w q m l : ℕ) → q < 2 ^ w → m < 2 ^ w → l < 2 * w → test ((2 ^ w - 1) - q) ((2 ^ w - 1) - m) l ≡ not (test q m l)
unfolding test
not_test w q m l hq hm h = go (l % 2)
  where
    go : (s : ℕ) → bit (side s ((2 ^ w - 1) - q) ((2 ^ w - 1) - m)) (l / 2) ≡ not (bit (side s q m) (l / 2))
    go zero = bit_not w q (l / 2) hq (omega arith)
    go (suc s) = bit_not w m (l / 2) hm (omega arith)

pub literals-without : (w p n q m : ℕ) → q < 2 ^ w → m < 2 ^ w
    → literals w (bit_and p ((2 ^ w - 1) - q)) (bit_and n ((2 ^ w - 1) - m)) ≡ without (literals w p n) (literals w q m)
literals-without w p n q m hq hm =
    ext _ _ (literals-asc w (bit_and p ((2 ^ w - 1) - q)) (bit_and n ((2 ^ w - 1) - m))) (without-asc (literals w p n) (literals w q m) (literals-asc w p n))
    (λ l. literals-mem w (bit_and p ((2 ^ w - 1) - q)) (bit_and n ((2 ^ w - 1) - m)) l
    ∙ ap (λ (b : Bool). ltb l (2 * w) && b) (op-test bit_and ◌&&◌ bit-and p n ((2 ^ w - 1) - q) ((2 ^ w - 1) - m) l)
    ∙ go l (ltb l (2 * w)) refl
    ∙ ap₂ (λ (a b : Bool). a && not b) (sym (literals-mem w p n l)) (sym (literals-mem w q m l))
    ∙ sym (without-mem l (literals w p n) (literals w q m)))
  where
    go : (l : ℕ) (k : Bool) → ltb l (2 * w) ≡ k
        → (k && (test p n l && test ((2 ^ w - 1) - q) ((2 ^ w - 1) - m) l)) ≡ ((k && test p n l) && not (k && test q m l))
    go l true e = ap (λ (b : Bool). test p n l && b) (not_test w q m l hq hm (ltb-true l (2 * w) e))
    go l false e = refl

-- ---- one literal more

-- what is one literal more in the test is one more in the list
insert-by : (w p n q m x : ℕ) → x < 2 * w → ((l : ℕ) → test q m l ≡ (eqb l x || test p n l)) → literals w q m ≡ insert x (literals w p n)
insert-by w p n q m x h t =
    ext _ _ (literals-asc w q m) (insert-asc x (literals w p n) (literals-asc w p n))
    (λ l. literals-mem w q m l ∙ ap (λ (b : Bool). ltb l (2 * w) && b) (t l) ∙ and-or_distrib_left (ltb l (2 * w)) (eqb l x) (test p n l)
    ∙ ap₂ ◌||◌ (bounded l (decided (eqb l x))) (sym (literals-mem w p n l)) ∙ sym (insert-mem l x (literals w p n)))
  where
    bounded : (l : ℕ) → (eqb l x ≡ true) ⊎ (eqb l x ≡ false) → (ltb l (2 * w) && eqb l x) ≡ eqb l x
    bounded l (inl e) = let e' : l ≡ x = eqb-true l x e in rw (e, lt-ltb l (2 * w) (omega arith))
    bounded l (inr e) = rw e (and-false (ltb l (2 * w)))

-- two literals of one polarity are the same where their variables are
alike : (k l : ℕ) → l % 2 ≡ k % 2 → eqb (k / 2) (l / 2) ≡ eqb k l
alike k l e = iff (λ t. omega (arith, eqb-true (k / 2) (l / 2) t, eq-eqb)) (λ t. omega (arith, eqb-true k l t, eq-eqb))

unlike : (k l : ℕ) → (l % 2 ≡ k % 2 → ⊥) → eqb k l ≡ false
unlike k l e = ne_eqb k l (λ t. e (ap (λ (x : ℕ). x % 2) (sym t)))

side-of : (f : ℕ → ℕ) (k : ℕ) → side (k % 2) (f 0) (f 1) ≡ f (k % 2)
side-of f k = go (k % 2) (mod-lt k (zero-lt-suc 1))
  where
    go : (s : ℕ) → s < 2 → side s (f 0) (f 1) ≡ f s
    go zero h = refl
    go (suc s) h = ap f (omega arith)

module _ (w l : ℕ) where
  -- past the last literal
  pub single-none : (s : ℕ) → ltb l (2 * w) ≡ false → single w l s ≡ 0
  unfolding single
  single-none s t = rw t

  pub single-one : (s : ℕ) → ltb l (2 * w) ≡ true → l % 2 ≡ s → single w l s ≡ 2 ^ (l / 2)
  unfolding single
  single-one s t e = rw (t, eq-eqb (l % 2) s e)

  pub single-other : (s : ℕ) → (l % 2 ≡ s → ⊥) → single w l s ≡ 0
  unfolding single
  single-other s e = rw (ne_eqb (l % 2) s e, and-false (ltb l (2 * w)))

  single-test : ltb l (2 * w) ≡ true → (k : ℕ) → test (single w l 0) (single w l 1) k ≡ eqb k l
  unfolding test
  single-test t k = ap (λ (m : ℕ). bit m (k / 2)) (side-of (single w l) k) ∙ elim (decided (eqb (l % 2) (k % 2))) [
    | inl e ↦ let q = eqb-true (l % 2) (k % 2) e in ap (λ (m : ℕ). bit m (k / 2)) (single-one (k % 2) t q) ∙ bit-pow (l / 2) (k / 2) ∙ alike k l q
    | inr e ↦ let q = eqb-false (l % 2) (k % 2) e in ap (λ (m : ℕ). bit m (k / 2)) (single-other (k % 2) q) ∙ bit-none (k / 2) ∙ sym (unlike k l q)
  ]

  module _ (p n : ℕ) where
    -- `|` with its bits joins a literal
    pub literals-single : literals w (bit_or p (single w l 0)) (bit_or n (single w l 1)) ≡ cond (ltb l (2 * w)) (insert l (literals w p n)) (literals w p n)
    literals-single = elim (decided (ltb l (2 * w))) [
      | inl t ↦
          insert-by w p n (bit_or p (single w l 0)) (bit_or n (single w l 1)) l (ltb-true l (2 * w) t)
          (λ k. op-test bit_or ◌||◌ bit-or p n (single w l 0) (single w l 1) k ∙ ap (λ (b : Bool). test p n k || b) (single-test t k)
          ∙ or_comm (test p n k) (eqb k l))
          ∙ rw t
      | inr t ↦ rw (single-none 0 t, single-none 1 t, or_zero_r p, or_zero_r n, t)
    ]

    -- `&` with its bits finds it
    pub mem-single : not (eqb (bit_or (bit_and p (single w l 0)) (bit_and n (single w l 1))) 0) ≡ mem l (literals w p n)
    mem-single = elim (decided (ltb l (2 * w))) [
      | inr t ↦ rw (single-none 0 t, single-none 1 t, and_zero_r p, and_zero_r n) (sym (literals-mem w p n l ∙ rw t))
      | inl t ↦ let h = ltb-true l (2 * w) t in elim (decided (eqb (l % 2) 0)) [
        | inl e ↦
            let z = eqb-true (l % 2) 0 e in
            rw (single-one 0 t z, single-other 1 (λ o. omega arith), and_zero_r n, or_zero_r (bit_and p (2 ^ (l / 2))))
            (bit_mask p (l / 2) ∙ sym (mem-even w p n l (omega arith) z))
        | inr e ↦
            let z = eqb-false (l % 2) 0 e in
            rw (single-other 0 z, single-one 1 t (omega arith), and_zero_r p, or_zero_l (bit_and n (2 ^ (l / 2))))
            (bit_mask n (l / 2) ∙ sym (mem-odd w p n l (omega arith) z))
      ]
    ]

-- ---- how many

length-keep : (f : ℕ → Bool) (x : ℕ) (c : List ℕ) (d : ℕ) → d < 2 → f x ≡ nonzero d → length (keep f (x ∷ c)) ≡ d + length (keep f c)
length-keep f x c zero h e = rw e (sym (zero-add (length (keep f c))))
length-keep f x c (suc d) h e = rw e (omega arith)

plain-digit : (p n v : ℕ) → test p n (2 * v) ≡ nonzero (p / 2 ^ v % 2)
unfolding test bit
plain-digit p n v = let r : 2 * v % 2 ≡ 0 = omega arith in let q : 2 * v / 2 ≡ v = omega arith in rw (r, q)

negated-digit : (p n v : ℕ) → test p n (suc (2 * v)) ≡ nonzero (n / 2 ^ v % 2)
unfolding test bit
negated-digit p n v = let r : suc (2 * v) % 2 ≡ 1 = omega arith in let q : suc (2 * v) / 2 ≡ v = omega arith in rw (r, q)

count-from : (w v p n : ℕ) → p / 2 ^ v < 2 ^ w → n / 2 ^ v < 2 ^ w
    → length (keep (test p n) (from (2 * v) (2 * w))) ≡ ones (p / 2 ^ v) + ones (n / 2 ^ v)
unfolding from ones
count-from zero v p n hp hn = rw (lt-one hp, lt-one hn)
count-from (suc w) v p n hp hn =
    let dp = p / 2 ^ v % 2 in
    let dn = n / 2 ^ v % 2 in
    let e : 2 ^ suc w ≡ 2 ^ w * 2 = pow-suc 2 w in
    let twice : 2 * suc w ≡ suc (suc (2 * w)) = omega arith in
    let next : suc (suc (2 * v)) ≡ 2 * suc v = omega arith in
    let up : (m : ℕ) → m / 2 ^ v / 2 ≡ m / 2 ^ suc v = λ m. shr-shr m v 1 ∙ ap (λ (k : ℕ). m / 2 ^ k) (add-one v) in
    let ih = count-from w (suc v) p n (subst (λ (x : ℕ). x < 2 ^ w) (up p) (omega arith)) (subst (λ (x : ℕ). x < 2 ^ w) (up n) (omega arith)) in
    let sp = ones_step (p / 2 ^ v) ∙ ap (λ (x : ℕ). dp + ones x) (up p) in
    let sn = ones_step (n / 2 ^ v) ∙ ap (λ (x : ℕ). dn + ones x) (up n) in
    ap (λ (k : ℕ). length (keep (test p n) (from (2 * v) k))) twice
    ∙ length-keep (test p n) (2 * v) (suc (2 * v) ∷ from (suc (suc (2 * v))) (2 * w)) dp (mod-lt (p / 2 ^ v) (zero-lt-suc 1)) (plain-digit p n v)
    ∙ ap (λ (k : ℕ). dp + k) (length-keep (test p n) (suc (2 * v)) (from (suc (suc (2 * v))) (2 * w)) dn (mod-lt (n / 2 ^ v) (zero-lt-suc 1))
    (negated-digit p n v))
    ∙ ap (λ (k : ℕ). dp + (dn + length (keep (test p n) (from k (2 * w))))) next
    ∙ ap (λ (k : ℕ). dp + (dn + k)) ih
    ∙ omega (arith, sp, sn)

-- the number of literals is the ones in the two masks
pub literals-length : (w p n : ℕ) → p < 2 ^ w → n < 2 ^ w → length (literals w p n) ≡ ones p + ones n
unfolding literals
literals-length w p n hp hn =
    count-from w 0 p n (subst (λ (x : ℕ). x < 2 ^ w) (sym (div-one p)) hp) (subst (λ (x : ℕ). x < 2 ^ w) (sym (div-one n)) hn)
    ∙ ap₂ (λ (x y : ℕ). ones x + ones y) (div-one p) (div-one n)

pub literals-at-most : (w p n : ℕ) → length (literals w p n) ≤ 2 * w
unfolding literals
literals-at-most w p n = omega (arith, keep-length (test p n) (from 0 (2 * w)), from-length 0 (2 * w))

-- ---- empty, proper, equal

-- masks of 0 hold none
pub literals-none : (w : ℕ) → literals w 0 0 ≡ []
unfolding mem test
literals-none w = ext (literals w 0 0) [] (literals-asc w 0 0) refl (λ l. literals-mem w 0 0 l ∙ rw (go (l % 2) l) (and-false (ltb l (2 * w))))
  where
    go : (s l : ℕ) → bit (side s 0 0) (l / 2) ≡ false
    go zero l = bit-none (l / 2)
    go (suc s) l = bit-none (l / 2)

-- no literal: both masks are 0
pub nil-literals : (w p n : ℕ) → p < 2 ^ w → n < 2 ^ w → eqb (bit_or p n) 0 ≡ is_nil (literals w p n)
nil-literals w p n hp hn = iff
    (λ e. mem-nil (literals w p n) (λ l. refuted (λ m. some-bit l (eqb-true (bit_or p n) 0 e) m (decided (eqb (l % 2) 0)))))
    (λ e. eq-eqb (bit_or p n) 0 (no_bits w (bit_or p n) (or_lt w p n hp hn) (λ v h.
    bit-or p n v ∙ rw (sym (mem-plain w p n v h) ∙ nil-mem (literals w p n) e (2 * v)) (sym (mem-negated w p n v h) ∙ nil-mem (literals w p n) e (2 * v + 1)))))
  where
    zero_bit : bit_or p n ≡ 0 → (v : ℕ) → (bit p v || bit n v) ≡ false
    zero_bit e v = sym (bit-or p n v) ∙ ap (λ (x : ℕ). bit x v) e ∙ bit-none v

    some-bit : (l : ℕ) → bit_or p n ≡ 0 → mem l (literals w p n) ≡ true → (eqb (l % 2) 0 ≡ true) ⊎ (eqb (l % 2) 0 ≡ false) → ⊥
    some-bit l e m (inl q) = let h : l < 2 * w = mem-inside w p n l m in
        clash (or_left (bit p (l / 2)) (bit n (l / 2)) (sym (mem-even w p n l (omega arith) (eqb-true (l % 2) 0 q)) ∙ m)) (zero_bit e (l / 2))
    some-bit l e m (inr q) = let h : l < 2 * w = mem-inside w p n l m in
        clash (or_right (bit p (l / 2)) (bit n (l / 2)) (sym (mem-odd w p n l (omega arith) (eqb-false (l % 2) 0 q)) ∙ m)) (zero_bit e (l / 2))

-- no variable both ways: the masks have no bit in common
pub proper-literals : (w p n : ℕ) → p < 2 ^ w → n < 2 ^ w → eqb (bit_and p n) 0 ≡ proper (literals w p n)
proper-literals w p n hp hn = iff
    (λ e. proper-in (literals w p n) (λ l m. refuted (λ o. apart l (eqb-true (bit_and p n) 0 e) m o (decided (eqb (l % 2) 0)))))
    (λ e. eq-eqb (bit_and p n) 0 (no_bits w (bit_and p n) (and_lt w p n hp hn) (λ v h. refuted (λ b.
    let q = both (bit p v) (bit n v) (sym (bit-and p n v) ∙ b) in
    let o : opposite_of (2 * v) ≡ 2 * v + 1 = omega arith in
    clash (mem-negated w p n v h ∙ q.1) (ap (λ (l : ℕ). mem l (literals w p n)) (sym o)
    ∙ proper-out (literals w p n) (2 * v) e (mem-plain w p n v h ∙ q.0))))))
  where
    zero_bit : bit_and p n ≡ 0 → (v : ℕ) → (bit p v && bit n v) ≡ false
    zero_bit e v = sym (bit-and p n v) ∙ ap (λ (x : ℕ). bit x v) e ∙ bit-none v

    apart : (l : ℕ) → bit_and p n ≡ 0 → mem l (literals w p n) ≡ true → mem (opposite_of l) (literals w p n) ≡ true
        → (eqb (l % 2) 0 ≡ true) ⊎ (eqb (l % 2) 0 ≡ false) → ⊥
    apart l z m o (inl q) =
        let e : l % 2 ≡ 0 = eqb-true (l % 2) 0 q in
        let h : l < 2 * w = mem-inside w p n l m in
        let ov : opposite_of l / 2 ≡ l / 2 = omega arith in
        clash (together (bit p (l / 2)) (bit n (l / 2)) (sym (mem-even w p n l (omega arith) e) ∙ m)
        (ap (bit n) (sym ov) ∙ sym (mem-odd w p n (opposite_of l) (omega arith) (λ t. omega arith)) ∙ o)) (zero_bit z (l / 2))
    apart l z m o (inr q) =
        let e : l % 2 ≡ 0 → ⊥ = eqb-false (l % 2) 0 q in
        let h : l < 2 * w = mem-inside w p n l m in
        let ov : opposite_of l / 2 ≡ l / 2 = omega arith in
        clash (together (bit p (l / 2)) (bit n (l / 2)) (ap (bit p) (sym ov) ∙ sym (mem-even w p n (opposite_of l) (omega arith) (omega arith)) ∙ o)
        (sym (mem-odd w p n l (omega arith) e) ∙ m)) (zero_bit z (l / 2))

pub equal-masks : (w p n q m : ℕ) → p < 2 ^ w → n < 2 ^ w → q < 2 ^ w → m < 2 ^ w → p ≡ q → eqb n m ≡ same (literals w p n) (literals w q m)
equal-masks w p n q m hp hn hq hm e = iff
    (λ t. eq-same _ _ (ap₂ (literals w) e (eqb-true n m t)))
    (λ t. eq-eqb n m (negated-injective w p n q m hn hm (same-eq _ _ t)))

pub other-masks : (w p n q m : ℕ) → p < 2 ^ w → q < 2 ^ w → (p ≡ q → ⊥) → false ≡ same (literals w p n) (literals w q m)
other-masks w p n q m hp hq e = sym (refuted (λ t. e (plain-injective w p n q m hp hq (same-eq _ _ t))))
