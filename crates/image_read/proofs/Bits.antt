-- The numbers that bits of an image hold. Assumes nothing.
use Prim.Native.Nat.{ℕ, zero, suc, ◌+◌, ◌/◌, ◌%◌, ◌^◌, ◌<◌, ◌≤◌}
use mathlib.Core.Path.{◌≡◌, refl, ap, ◌∙◌}
use mathlib.Core.Bool.{Bool, true, false, cond, not}
use mathlib.Core.List.{List, [], ◌∷◌}
use native.Mathlib.Omega.{arith}
use native.Mathlib.Nat.{pow-le-pow_right, one-le-pow, mod-lt}
use lib.Bits.{bit_and, and_mask}
use lib.Dec.{eqb, lit<}
use lib.ListN.{length, take, length-take}
use borrow.Author.Tests.{ne_eqb}
use Rattle.sets.specs.Lists.{all}
use Rattle.sets.specs.Masks.{bit, nonzero}
use Rattle.image_fields.{specs.Fields.value_of, proofs.Bits.value-lt}
use Rattle.image_read.specs.Parts.{widest}

-- so many bits hold a number below the power
pub value-below : (w : ℕ) (l : List Bool) → value_of (take w l) < 2 ^ w
value-below w l =
    let p : 2 ^ length (take w l) ≤ 2 ^ w = pow-le-pow_right (lit< tt) (omega (arith, length-take w l)) in
    omega (arith, value-lt (take w l))

pub value-small : (w : ℕ) (l : List Bool) → w ≤ widest → value_of (take w l) < 2 ^ widest
value-small w l h =
    let p : 2 ^ w ≤ 2 ^ widest = pow-le-pow_right (lit< tt) h in
    omega (arith, value-below w l)

-- a bit as a number
pub bit-read : (m v : ℕ) → bit_and (m / 2 ^ v) 1 ≡ cond (bit m v) 1 0
unfolding bit
bit-read m v = and_mask (m / 2 ^ v) 1 ∙ go (m / 2 ^ v % 2) (mod-lt (m / 2 ^ v) (lit< tt))
  where
    go : (x : ℕ) → x < 2 → x ≡ cond (nonzero x) 1 0
    go zero h = refl
    go (suc zero) h = refl
    go (suc (suc x)) h = absurd (omega arith)

pub bit-small : (b : Bool) → cond b 1 0 ≤ 1
bit-small true = omega arith
bit-small false = omega arith

-- the number is 0 where no bit is set
pub value-zero : (l : List Bool) → eqb (value_of l) 0 ≡ all not l
unfolding value_of
value-zero [] = refl
value-zero (true ∷ l) = ne_eqb (2 ^ length l + value_of l) 0 (λ e. omega (arith, e, one-le-pow (length l) 2 (lit< tt)))
value-zero (false ∷ l) = let e : 0 + value_of l ≡ value_of l = omega arith in ap (λ n. eqb n 0) e ∙ value-zero l
