-- The ones of a mask without its lowest one, and of two masks together; so the literals of masks that share no one are told. Assumes nothing.
use Prim.Native.Nat.{ℕ, ◌+◌, ◌-◌, ◌*◌, ◌/◌, ◌%◌, ◌^◌, ◌<◌, min, max}
use mathlib.Core.Path.{◌≡◌, refl, ◌∙◌}
use mathlib.Core.Logic.{inl, inr}
use native.Mathlib.Nat.{eq-zero-or-pos}
use native.Mathlib.Omega.{arith}
use lib.Arith.{bin_ind}
use lib.Bits.{bit_and, bit_or, and_step, or_step, and_self}
use lib.Count.{ones, ones_step}
use lib.ListN.{length}
use Rattle.sets.{specs.Masks.literals, proofs.Literals.literals-length}

pub ones_none : {m : ℕ} → m ≡ 0 → ones m ≡ 0
unfolding ones
ones_none e = rw e

-- the lowest digit, and the ones of the rest
ones-next : (r d : ℕ) {m : ℕ} → m ≡ r * 2 + d → d < 2 → ones m ≡ d + ones r
ones-next r d {m} e h = let q : m / 2 ≡ r = omega arith in let t : m % 2 ≡ d = omega arith in rw (ones_step m, q, t)

-- less 1, and with itself, a mask has one less
pub ones-less : (x : ℕ) → (x ≡ 0 → ⊥) → ones x ≡ ones (bit_and x (x - 1)) + 1
ones-less = bin_ind (λ x. (x ≡ 0 → ⊥) → ones x ≡ ones (bit_and x (x - 1)) + 1) (λ h. absurd (h refl)) (λ x ih h.
    let a : ones (bit_and x (x - 1)) ≡ 0 + ones (bit_and (x / 2) ((x - 1) / 2)) =
    ones-next (bit_and (x / 2) ((x - 1) / 2)) 0 (and_step x (x - 1) ∙ omega arith) (omega arith) in
    elim (eq-zero-or-pos (x % 2)) [
      | inl t ↦
          let e : (x - 1) / 2 ≡ x / 2 - 1 = omega arith in
          omega (arith, ih (λ z. h (omega arith)), ones_step x, rw e at a)
      | inr t ↦
          let e : (x - 1) / 2 ≡ x / 2 = omega arith in
          omega (arith, ones_step x, rw (e, and_self (x / 2)) at a)
    ])

-- those in one of two masks, and those in both
ones-two : (p n : ℕ) → ones (bit_or p n) + ones (bit_and p n) ≡ ones p + ones n
unfolding ones
ones-two = bin_ind (λ p. (n : ℕ) → ones (bit_or p n) + ones (bit_and p n) ≡ ones p + ones n) (λ n. omega arith) (λ p ih n.
    let o = ones-next (bit_or (p / 2) (n / 2)) (max (p % 2) (n % 2)) (or_step p n) (omega arith) in
    let a = ones-next (bit_and (p / 2) (n / 2)) (min (p % 2) (n % 2)) (and_step p n) (omega arith) in
    omega (arith, o, a, ih (n / 2), ones_step p, ones_step n))

-- the literals of masks that share no one
pub apart-length : (w p n : ℕ) → p < 2 ^ w → n < 2 ^ w → bit_and p n ≡ 0 → length (literals w p n) ≡ ones (bit_or p n)
apart-length w p n hp hn z = omega (arith, literals-length w p n hp hn, ones-two p n, ones_none z)
