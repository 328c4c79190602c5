-- The first literal of two masks from a variable on, for every width: by the lowest bit of the two masks shifted and joined. Assumes nothing.
use mathlib.Core.Path.{◌≡◌, sym, ◌∙◌, ap}
use mathlib.Core.Bool.{Bool, true, false, ◌&&◌, and-false}
use mathlib.Core.{Option.none, Option.some, Logic.inl, Logic.inr}
use Prim.Native.Nat.{ℕ, zero, suc, ◌+◌, ◌-◌, ◌*◌, ◌/◌, ◌%◌, ◌^◌, ◌<◌, ◌≤◌}
use native.Mathlib.Omega.{arith}
use lib.Dec.{ltb}
use lib.Bits.{bit_or}
use borrow.Author.Tests.{ltb-true, ltb-false}
use Rattle.sets.specs.Sets.{mem, first_from}
use Rattle.sets.specs.Masks.{bit, side, test, literals}
use Rattle.sets.proofs.Truth.{clash, or_left, or_right, decided, refuted, Stand, below, equal, beyond, compared}
use Rattle.sets.proofs.Digits.{bit-or, bit-shr, bit-none, bit_high}
use Rattle.sets.proofs.Literals.{literals-mem, mem-inside, mem-plain, mem-negated, mem-wide, literals-asc}
use Rattle.sets.proofs.First.{first-none, first_some, some_first}

pub first-wide : (w p n v : ℕ) → w ≤ v → none ≡ first_from (2 * v) (literals w p n)
first-wide w p n v h = sym (first-none (2 * v) (literals w p n) (λ k b. mem-wide w p n k (omega arith)))

pub first-inside : (w p n l d : ℕ) → some d ≡ first_from l (literals w p n) → d < 2 * w
first-inside w p n l d e = mem-inside w p n d (some_first l (literals w p n) d (literals-asc w p n) (sym e)).is_in

module _ (w p n v : ℕ) where
  -- where the joined masks have no bit below t, the cube has no literal from 2v up to 2(v + t)
  quiet : (t : ℕ) → ((i : ℕ) → i < t → bit (bit_or (p / 2 ^ v) (n / 2 ^ v)) i ≡ false) → (k : ℕ) → 2 * v ≤ k → k < 2 * (v + t)
      → mem k (literals w p n) ≡ false
  unfolding test
  quiet t h k lo hi = literals-mem w p n k ∙ ap (λ (b : Bool). ltb k (2 * w) && b) (go (k % 2)) ∙ and-false (ltb k (2 * w))
    where
      place : v + (k / 2 - v) ≡ k / 2
      place = omega arith

      no : bit (bit_or (p / 2 ^ v) (n / 2 ^ v)) (k / 2 - v) ≡ false
      no = h (k / 2 - v) (omega arith)

      at : (m : ℕ) → bit m (k / 2) ≡ bit (m / 2 ^ v) (k / 2 - v)
      at m = ap (bit m) (sym place) ∙ sym (bit-shr m v (k / 2 - v))

      go : (s : ℕ) → bit (side s p n) (k / 2) ≡ false
      go zero = refuted (λ b. clash (bit-or (p / 2 ^ v) (n / 2 ^ v) (k / 2 - v)
          ∙ or_left (bit (p / 2 ^ v) (k / 2 - v)) (bit (n / 2 ^ v) (k / 2 - v)) (sym (at p) ∙ b)) no)
      go (suc s) = refuted (λ b. clash (bit-or (p / 2 ^ v) (n / 2 ^ v) (k / 2 - v)
          ∙ or_right (bit (p / 2 ^ v) (k / 2 - v)) (bit (n / 2 ^ v) (k / 2 - v)) (sym (at n) ∙ b)) no)

  pub first-empty : bit_or (p / 2 ^ v) (n / 2 ^ v) ≡ 0 → none ≡ first_from (2 * v) (literals w p n)
  first-empty e =
      sym (first-none (2 * v) (literals w p n) (λ k b. quiet (suc k) (λ i h. ap (λ (x : ℕ). bit x i) e ∙ bit-none i) k b (omega arith)))

  module _ (hp : p < 2 ^ w) (hn : n < 2 ^ w) (t : ℕ) (low : (i : ℕ) → i < t → bit (bit_or (p / 2 ^ v) (n / 2 ^ v)) i ≡ false) where
    inside : (m : ℕ) → m < 2 ^ w → bit m (v + t) ≡ true → v + t < w
    inside m h b = elim (decided (ltb (v + t) w)) [
      | inl r ↦ ltb-true (v + t) w r
      | inr r ↦ clash b (bit_high w m (v + t) h (ltb-false (v + t) w r))
    ]

    pub first_plain : bit (p / 2 ^ v) t ≡ true → some (2 * (v + t)) ≡ first_from (2 * v) (literals w p n)
    first_plain b =
        let b' : bit p (v + t) ≡ true = sym (bit-shr p v t) ∙ b in
        sym (first_some (2 * v) (literals w p n) (2 * (v + t)) (literals-asc w p n)
        (mem-plain w p n (v + t) (inside p hp b') ∙ b') (omega arith) (λ k lo hi. quiet t low k lo hi))

    pub first-negated : bit (bit_or (p / 2 ^ v) (n / 2 ^ v)) t ≡ true → bit (p / 2 ^ v) t ≡ false
        → some (2 * (v + t) + 1) ≡ first_from (2 * v) (literals w p n)
    first-negated b z =
        let b' : bit n (v + t) ≡ true = sym (bit-shr n v t) ∙ (rw z at (sym (bit-or (p / 2 ^ v) (n / 2 ^ v) t) ∙ b)) in
        let h : v + t < w = inside n hn b' in
        sym (first_some (2 * v) (literals w p n) (2 * (v + t) + 1) (literals-asc w p n) (mem-negated w p n (v + t) h ∙ b') (omega arith)
        (λ k lo hi. go k lo hi h (compared k (2 * (v + t)))))
      where
        go : (k : ℕ) → 2 * v ≤ k → k < 2 * (v + t) + 1 → v + t < w → Stand k (2 * (v + t)) → mem k (literals w p n) ≡ false
        go k lo hi h (below r x y) = quiet t low k lo r
        go k lo hi h (equal r x y) =
            ap (λ (l : ℕ). mem l (literals w p n)) r ∙ mem-plain w p n (v + t) h ∙ sym (bit-shr p v t) ∙ z
        go k lo hi h (beyond r x y) = absurd (omega arith)
