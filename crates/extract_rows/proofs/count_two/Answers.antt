-- `extract_rows::count_two` meets its contract: a case for each way the tests go. Assumes nothing.
use Prim.Native.Nat.{ℕ, ◌<◌}
use mathlib.Core.Path.{sym, ap, ◌∙◌}
use native.Mathlib.Omega.{arith}
use lib.ListN.{length}
use Rattle.cube.{proofs.Lits.lits-at-most}
use Rattle.extract_rows.proofs.Counting.{counts-as, counts-none, small-out, two-left, two-right, two-some}
use Rattle.extract_rows.proofs.count_two.Goals as goal
use Rattle.extract_rows.proofs.count_two.Goals.{Else-not-is_small, Else-not-is_small-2, After-count-2}

pub returns-then-not-is_small : goal.returns-then-not-is_small
returns-then-not-is_small c =
    let up = c.args.up in
    counts-as up (λ k. two-left k _ _ _ c.without-a.ensures (sym c.is_small.ensures ∙ c.if-not-is_small.true)) (counts-none up _ _)

pub returns-then-not-is_small-2 : goal.returns-then-not-is_small-2
returns-then-not-is_small-2 c =
    let up = c.args.up in
    counts-as up (λ k. two-right k _ _ _ c.without-a.ensures (sym c.is_small.ensures ∙ c.if-not-is_small.false) _ c.without-b.ensures
    (sym c.is_small-2.ensures ∙ c.if-not-is_small-2.true)) (counts-none up _ _)

-- the counts are small
record Few (base m n : ℕ) : Type 0 where
  common : base < 129
  some : 0 < m
  first : m < 3
  second : n < 3

sizes : (c : After-count-2) → Few c.count-base.result c.count.result c.count-2.result
sizes c =
    let a = small-out _ _ c.count.ensures (sym c.is_small.ensures ∙ c.if-not-is_small.false) in
    let b = small-out _ _ c.count-2.ensures (sym c.is_small-2.ensures ∙ c.if-not-is_small-2.false) in
    let i = lits-at-most c.common.result in
    record { common = omega (arith, c.count-base.ensures); some = a.0; first = a.1; second = b.1 }

pub overflow_add-by : goal.overflow_add-by
overflow_add-by c = let f = sizes c in omega (arith, f.first, f.second)

pub overflow_sub-by : goal.overflow_sub-by
overflow_sub-by c = omega (arith, (sizes c).some)

pub overflow_add-by-2 : goal.overflow_add-by-2
overflow_add-by-2 c = let f = sizes c in omega (arith, f.common, f.first, f.second)

pub overflow_cast-by : goal.overflow_cast-by
overflow_cast-by c = let f = sizes (goal.at.overflow_cast-by c).After-count-2 in omega (arith, f.common, f.first, f.second)

pub returns : goal.returns
returns c =
    counts-as c.args.up (λ k. two-some k _ _ _ c.without-a.ensures (sym c.is_small.ensures ∙ c.if-not-is_small.false) _ c.without-b.ensures
    (sym c.is_small-2.ensures ∙ c.if-not-is_small-2.false) (c.count-base.ensures ∙ ap length c.common.ensures) c.count.ensures c.count-2.ensures
    c.sum_key.ensures) c.count_use.ensures
