-- The whole text: the cubes copied and sorted. Assumes nothing.
use Prim.Native.Nat.{ℕ, ◌-◌, ◌≤◌}
use mathlib.Core.Path.{◌≡◌, ◌∙◌, ap}
use mathlib.Core.List.{List}
use native.Mathlib.Omega.{arith}
use lib.ListN.{length, take, drop}
use lib.Seq.{take_all}
use Rattle.expression.specs.Words.{cubes_of, Placed, fitting}
use Rattle.expression.proofs.Placing.{placed-as, placed-span, placed-sort, placed-fitting}
use Rattle.expression.{specs.Expression.sort, proofs.Sorting.sort-length, proofs.Sorting.total-sort}
use Rattle.factor.specs.{Form.form_by, Text.form_text, Text.text_of, Parts.written_sum}

-- ---- the cubes copied and sorted

pub sorted_front : {old mid new : List ℕ} {n : ℕ} (f : List ℕ) → n ≡ length (cubes_of f) → n ≤ length (cubes_of old)
    → Placed old mid 0 (fitting old 0 (take (n - 0) (drop 0 (cubes_of f)))) → Placed mid new 0 (sort (take (n - 0) (drop 0 (cubes_of mid))))
    → take n (cubes_of new) ≡ sort (cubes_of f)
sorted_front {old} {mid} {new} {n} f h k c p =
    let z : n ≡ n - 0 = omega arith in
    let whole : take (n - 0) (cubes_of f) ≡ cubes_of f = take_all (n - 0) (cubes_of f) (omega arith) in
    let r : Placed old mid 0 (cubes_of f) = placed-fitting (cubes_of f) (omega arith) (placed-as (ap (fitting old 0) whole) c) in
    let s : Placed old new 0 (sort (cubes_of f)) = placed-sort r (omega arith) {e = n} (omega arith) p in
    ap (λ i. take i (cubes_of new)) z ∙ placed-span s (omega arith) {e = n} (omega (arith, sort-length (cubes_of f)))

pub text-sum : (ws : List ℕ) → written_sum (sort (cubes_of ws)) ≡ text_of ws
unfolding written_sum text_of
text-sum ws = ap (λ k. form_text (form_by k (sort (cubes_of ws)))) (total-sort length (cubes_of ws))
