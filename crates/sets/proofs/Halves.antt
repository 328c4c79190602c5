-- Masks of w + k bits made of k high bits and w low ones, as P * 2 ^ w + p: their literals are those of the low masks, and then those of the
-- high masks, 2w further on. Assumes nothing.
use mathlib.Core.Path.{◌≡◌, refl, sym, ◌∙◌, ap, ap₂, subst}
use mathlib.Core.{Bool.false, Bool.◌&&◌, List.List}
use mathlib.Core.Option.{Option, none, some}
use Prim.Native.Nat.{ℕ, zero, suc, ◌+◌, ◌-◌, ◌*◌, ◌/◌, ◌%◌, ◌^◌, ◌<◌, ◌≤◌}
use native.Mathlib.Nat.{not-suc-le-zero, le_of_suc-le-suc, add_comm}
use native.Mathlib.Omega.{arith}
use lib.Pow.{high, pow-add}
use lib.Arith.{digits_lt}
use lib.Count.{ones_cat}
use lib.ListN.{length}
use lib.Bits.{bit_or, bit_and, bit_xor, xor_block, block_half, block_odd, or_block, and_block}
use borrow.Author.Tests.{ltb-true, lt-ltb}
use Rattle.sets.specs.Lists.{further, or_else}
use Rattle.sets.specs.Sets.{mem, first_from, union, meet}
use Rattle.sets.specs.Masks.{bit, nonzero, side, test, literals}
use Rattle.sets.proofs.Truth.{iff}
use Rattle.sets.proofs.Digits.{bit-zero, bit-suc, bit-shr}
use Rattle.sets.proofs.Literals.{literals-mem, literals-asc, mem-inside, literals-union, literals-meet, literals-length}
use Rattle.sets.proofs.First.{some_first, none_first, first_some, first-none, first_past}

pub bit-low : (w a p v : ℕ) → v < w → bit (a * 2 ^ w + p) v ≡ bit p v
bit-low zero a p v h = absurd (not-suc-le-zero h)
bit-low (suc w) a p zero h = bit-zero (a * 2 ^ suc w + p) ∙ ap nonzero (block_odd a w p) ∙ sym (bit-zero p)
bit-low (suc w) a p (suc v) h =
    bit-suc (a * 2 ^ suc w + p) v ∙ ap (λ (x : ℕ). bit x v) (block_half a w p) ∙ bit-low w a (p / 2) v (le_of_suc-le-suc h) ∙ sym (bit-suc p v)

pub bit-above : (w a p v : ℕ) → p < 2 ^ w → bit (a * 2 ^ w + p) (w + v) ≡ bit a v
bit-above w a p v h = sym (bit-shr (a * 2 ^ w + p) w v) ∙ ap (λ (x : ℕ). bit x v) (high a w h)

module _ (w k p n a b : ℕ) (hp : p < 2 ^ w) (hn : n < 2 ^ w) where
  pub mem-low : (l : ℕ) → l < 2 * w → mem l (literals (w + k) (a * 2 ^ w + p) (b * 2 ^ w + n)) ≡ mem l (literals w p n)
  unfolding test
  mem-low l h =
      literals-mem (w + k) (a * 2 ^ w + p) (b * 2 ^ w + n) l
      ∙ ap₂ ◌&&◌ (lt-ltb l (2 * (w + k)) (omega arith) ∙ sym (lt-ltb l (2 * w) h)) (go (l % 2))
      ∙ sym (literals-mem w p n l)
    where
      go : (s : ℕ) → bit (side s (a * 2 ^ w + p) (b * 2 ^ w + n)) (l / 2) ≡ bit (side s p n) (l / 2)
      go zero = bit-low w a p (l / 2) (omega arith)
      go (suc s) = bit-low w b n (l / 2) (omega arith)

  pub mem-above : (l : ℕ) → mem (2 * w + l) (literals (w + k) (a * 2 ^ w + p) (b * 2 ^ w + n)) ≡ mem l (literals k a b)
  unfolding test
  mem-above l =
      let r : (2 * w + l) % 2 ≡ l % 2 = omega arith in
      let q : (2 * w + l) / 2 ≡ w + l / 2 = omega arith in
      let same : test (a * 2 ^ w + p) (b * 2 ^ w + n) (2 * w + l) ≡ test a b l = rw (r, q) (go (l % 2)) in
      literals-mem (w + k) (a * 2 ^ w + p) (b * 2 ^ w + n) (2 * w + l)
      ∙ ap₂ ◌&&◌ (iff
      (λ t. let t' : 2 * w + l < 2 * (w + k) = ltb-true (2 * w + l) (2 * (w + k)) t in lt-ltb l (2 * k) (omega arith))
      (λ t. let t' : l < 2 * k = ltb-true l (2 * k) t in lt-ltb (2 * w + l) (2 * (w + k)) (omega arith))) same
      ∙ sym (literals-mem k a b l)
    where
      go : (s : ℕ) → bit (side s (a * 2 ^ w + p) (b * 2 ^ w + n)) (w + l / 2) ≡ bit (side s a b) (l / 2)
      go zero = bit-above w a p (l / 2) hp
      go (suc s) = bit-above w b n (l / 2) hn

  -- the same, as code asks it
  pub mem-high : (l : ℕ) → 2 * w ≤ l → mem l (literals (w + k) (a * 2 ^ w + p) (b * 2 ^ w + n)) ≡ mem (l - 2 * w) (literals k a b)
  mem-high l h =
      let e : l ≡ 2 * w + (l - 2 * w) = omega arith in
      ap (λ (x : ℕ). mem x (literals (w + k) (a * 2 ^ w + p) (b * 2 ^ w + n))) e ∙ mem-above (l - 2 * w)

  abbrev whole : List ℕ
  whole = literals (w + k) (a * 2 ^ w + p) (b * 2 ^ w + n)

  pub first-high : (l : ℕ) → 2 * w ≤ l → first_from l whole ≡ further (2 * w) (first_from (l - 2 * w) (literals k a b))
  first-high l h = go (first_from (l - 2 * w) (literals k a b)) refl
    where
      go : (o : Option ℕ) → first_from (l - 2 * w) (literals k a b) ≡ o → first_from l whole ≡ further (2 * w) o
      go none e = first-none l whole (λ i g. mem-high i (omega arith) ∙ none_first (l - 2 * w) (literals k a b) e (i - 2 * w) (omega arith))
      go (some d) e =
          let f = some_first (l - 2 * w) (literals k a b) d (literals-asc k a b) e in
          let nb : l - 2 * w ≤ d = f.not_below in
          first_some l whole (2 * w + d) (literals-asc (w + k) (a * 2 ^ w + p) (b * 2 ^ w + n)) (mem-above d ∙ f.is_in) (omega arith)
          (λ i g u. mem-high i (omega arith) ∙ f.least (i - 2 * w) (omega arith) (omega arith))

  pub first-low : (l : ℕ) → l < 2 * w
      → first_from l whole ≡ or_else (first_from l (literals w p n)) (further (2 * w) (first_from 0 (literals k a b)))
  first-low l h = go (first_from l (literals w p n)) refl
    where
      go : (o : Option ℕ) → first_from l (literals w p n) ≡ o → first_from l whole ≡ or_else o (further (2 * w) (first_from 0 (literals k a b)))
      go none e = skip ∙ first-high (2 * w) (omega arith) ∙ ap (λ (i : ℕ). further (2 * w) (first_from i (literals k a b))) nothing
        where
          nothing : 2 * w - 2 * w ≡ 0
          nothing = omega arith

          quiet : (i : ℕ) → l ≤ i → i < 2 * w → mem i whole ≡ false
          quiet i g u = mem-low i u ∙ none_first l (literals w p n) e i g

          skip : first_from l whole ≡ first_from (2 * w) whole
          skip = first_past l (2 * w) whole (omega arith) quiet
      go (some d) e =
          let f = some_first l (literals w p n) d (literals-asc w p n) e in
          let u : d < 2 * w = mem-inside w p n d f.is_in in
          first_some l whole d (literals-asc (w + k) (a * 2 ^ w + p) (b * 2 ^ w + n)) (mem-low d u ∙ f.is_in) f.not_below
          (λ i g t. mem-low i (omega arith) ∙ f.least i g t)

  -- the two cases, as code meets them
  pub first_found : (l d : ℕ) → l < 2 * w → some d ≡ first_from l (literals w p n) → some d ≡ first_from l whole
  first_found l d h e = ap (λ (o : Option ℕ). or_else o (further (2 * w) (first_from 0 (literals k a b)))) e ∙ sym (first-low l h)

  pub first-missed : (l : ℕ) → l < 2 * w → none ≡ first_from l (literals w p n) → further (2 * w) (first_from 0 (literals k a b)) ≡ first_from l whole
  first-missed l h e = ap (λ (o : Option ℕ). or_else o (further (2 * w) (first_from 0 (literals k a b)))) e ∙ sym (first-low l h)

-- ---- the operations on masks, part by part

module _ (w k p n a b q m c d : ℕ) (hp : p < 2 ^ w) (hn : n < 2 ^ w) (hq : q < 2 ^ w) (hm : m < 2 ^ w) where
  pub split-union :
      literals (w + k) (bit_or a c * 2 ^ w + bit_or p q) (bit_or b d * 2 ^ w + bit_or n m)
      ≡ union (literals (w + k) (a * 2 ^ w + p) (b * 2 ^ w + n)) (literals (w + k) (c * 2 ^ w + q) (d * 2 ^ w + m))
  split-union =
      ap₂ (literals (w + k)) (sym (or_block w a c p q hp hq)) (sym (or_block w b d n m hn hm))
      ∙ literals-union (w + k) (a * 2 ^ w + p) (b * 2 ^ w + n) (c * 2 ^ w + q) (d * 2 ^ w + m)

  pub split-meet :
      literals (w + k) (bit_and a c * 2 ^ w + bit_and p q) (bit_and b d * 2 ^ w + bit_and n m)
      ≡ meet (literals (w + k) (a * 2 ^ w + p) (b * 2 ^ w + n)) (literals (w + k) (c * 2 ^ w + q) (d * 2 ^ w + m))
  split-meet =
      ap₂ (literals (w + k)) (sym (and_block w a c p q hp hq)) (sym (and_block w b d n m hn hm))
      ∙ literals-meet (w + k) (a * 2 ^ w + p) (b * 2 ^ w + n) (c * 2 ^ w + q) (d * 2 ^ w + m)

-- the masks' `^`, part by part
pub split-xor : (w k p n a b q m c d : ℕ) → p < 2 ^ w → n < 2 ^ w → q < 2 ^ w → m < 2 ^ w
    → literals (w + k) (bit_xor a c * 2 ^ w + bit_xor p q) (bit_xor b d * 2 ^ w + bit_xor n m)
    ≡ literals (w + k) (bit_xor (a * 2 ^ w + p) (c * 2 ^ w + q)) (bit_xor (b * 2 ^ w + n) (d * 2 ^ w + m))
split-xor w k p n a b q m c d hp hn hq hm = ap₂ (literals (w + k)) (sym (xor_block w a c p q hp hq)) (sym (xor_block w b d n m hn hm))

pub split-length : (w k p n a b : ℕ) → p < 2 ^ w → n < 2 ^ w → a < 2 ^ k → b < 2 ^ k
    → length (literals w p n) + length (literals k a b) ≡ length (literals (w + k) (a * 2 ^ w + p) (b * 2 ^ w + n))
split-length w k p n a b hp hn ha hb =
    let e = literals-length (w + k) (a * 2 ^ w + p) (b * 2 ^ w + n) (bound p a hp ha) (bound n b hn hb) in
    omega (arith, e, ones_cat w a p hp, ones_cat w b n hn, literals-length w p n hp hn, literals-length k a b ha hb)
  where
    bound : (x y : ℕ) → x < 2 ^ w → y < 2 ^ k → y * 2 ^ w + x < 2 ^ (w + k)
    bound x y hx hy = subst (λ (z : ℕ). y * 2 ^ w + x < z) (sym (pow-add 2 k w) ∙ ap (λ (e : ℕ). 2 ^ e) (add_comm k w)) (digits_lt hy hx)
