-- The mask of a list of bits: its bits are the list's, it has no others, and its ones are counted. Assumes nothing.
use Prim.Native.Nat.{ℕ, zero, suc, ◌+◌, ◌*◌, ◌/◌, ◌%◌, ◌^◌, ◌<◌}
use mathlib.Core.Path.{◌≡◌, refl, ap, ◌∙◌}
use mathlib.Core.Bool.{Bool, true, false}
use mathlib.Core.List.{List, [], ◌∷◌}
use native.Mathlib.Nat.{pow-suc}
use native.Mathlib.Omega.{arith}
use lib.Count.{ones, ones_step}
use lib.ListN.{length, get_or}
use Rattle.sets.specs.Lists.{keep}
use Rattle.sets.specs.Masks.{bit, nonzero, packed}
use Rattle.sets.proofs.Digits.{bit-zero, bit-suc, bit-none}

pub packed-bit : (l : List Bool) (j : ℕ) → bit (packed l) j ≡ get_or l j false
unfolding packed
packed-bit [] j = bit-none j
packed-bit (true ∷ l) zero = let e : (1 + 2 * packed l) % 2 ≡ 1 = omega arith in bit-zero (1 + 2 * packed l) ∙ ap nonzero e
packed-bit (false ∷ l) zero = let e : (0 + 2 * packed l) % 2 ≡ 0 = omega arith in bit-zero (0 + 2 * packed l) ∙ ap nonzero e
packed-bit (true ∷ l) (suc j) = let e : (1 + 2 * packed l) / 2 ≡ packed l = omega arith in bit-suc (1 + 2 * packed l) j ∙ rw e (packed-bit l j)
packed-bit (false ∷ l) (suc j) = let e : (0 + 2 * packed l) / 2 ≡ packed l = omega arith in bit-suc (0 + 2 * packed l) j ∙ rw e (packed-bit l j)

pub packed_lt : (l : List Bool) → packed l < 2 ^ length l
unfolding packed
packed_lt [] = omega arith
packed_lt (true ∷ l) = omega (arith, packed_lt l, pow-suc 2 (length l))
packed_lt (false ∷ l) = omega (arith, packed_lt l, pow-suc 2 (length l))

pub packed-ones : (l : List Bool) → ones (packed l) ≡ length (keep (λ b. b) l)
unfolding packed ones
packed-ones [] = refl
packed-ones (true ∷ l) =
    let e : (1 + 2 * packed l) % 2 ≡ 1 = omega arith in
    let q : (1 + 2 * packed l) / 2 ≡ packed l = omega arith in
    let s = ones_step (1 + 2 * packed l) in
    s ∙ rw (e, q, packed-ones l) (omega arith)
packed-ones (false ∷ l) =
    let e : (0 + 2 * packed l) % 2 ≡ 0 = omega arith in
    let q : (0 + 2 * packed l) / 2 ≡ packed l = omega arith in
    let s = ones_step (0 + 2 * packed l) in
    s ∙ rw (e, q, packed-ones l) (omega arith)
