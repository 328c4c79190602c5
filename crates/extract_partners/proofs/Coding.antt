-- The code of a cube is a function of its literals: they tell its masks. Assumes nothing.
use Prim.Native.Nat.{ℕ, ◌+◌, ◌*◌, ◌^◌, ◌<◌}
use mathlib.Core.Path.{◌≡◌, sym, ap, ap₂, ◌∙◌}
use mathlib.Core.{Bool.Bool, Bool.false, List.List, List.map}
use native.Mathlib.Omega.{arith}
use lib.ListN.{length, length-map}
use Rattle.sets.{specs.Lists.from, specs.Sets.mem, proofs.Literals.mem-plain, proofs.Literals.mem-negated}
use Rattle.sets.specs.Masks.{bit, literals, packed}
use Rattle.sets.proofs.{Digits.bits-ext, Packing.packed-bit, Packing.packed_lt, Rows.from-length, Rows.get_d-from}
use Rattle.cube.specs.Cube.{width}
use Rattle.extract_partners.specs.Table.{mixed, mask_of, code_of}

mask_is : (s m : ℕ) (c : List ℕ) → m < 2 ^ width → ((v : ℕ) → v < width → mem (2 * v + s) c ≡ bit m v) → mask_of s c ≡ m
unfolding mask_of
mask_is s m c h e =
    let b : ℕ → Bool = λ v. mem (2 * v + s) c in
    let l : length (map b (from 0 width)) ≡ width = length-map (from 0 width) b ∙ from-length 0 width in
    bits-ext width (packed (map b (from 0 width))) m (rw l at (packed_lt (map b (from 0 width)))) h
    (λ v k. packed-bit (map b (from 0 width)) v ∙ get_d-from b false 0 width v k ∙ ap b (omega arith) ∙ e v k)

pub code-masks : (p n : ℕ) → p < 2 ^ width → n < 2 ^ width → mixed p n ≡ code_of (literals width p n)
unfolding code_of
code-masks p n h k = sym (ap₂ mixed
    (mask_is 0 p (literals width p n) h (λ v l. ap (λ i. mem i (literals width p n)) (omega arith) ∙ mem-plain width p n v l))
    (mask_is 1 n (literals width p n) k (λ v l. mem-negated width p n v l)))
