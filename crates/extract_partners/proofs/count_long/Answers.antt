-- The answers of `extract_partners::count_long`.
use Prim.Native.Nat.{◌+◌, ◌-◌}
use mathlib.Core.Path.{◌≡◌, sym, ap, ap₂, ◌∙◌}
use mathlib.Core.List.{[]}
use native.Mathlib.Omega.{arith}
use lib.ListN.{drop, length-drop, drop_of_length-le}
use lib.Seq.{take_all}
use Rattle.expression.specs.Words.{cubes_of}
use Rattle.extract_counts.specs.Counts.{row_gain, sums_gain}
use Rattle.extract_partners.proofs.Turning.{partly-first, partly-then, partly-end}
use Rattle.extract_partners.proofs.{Node.sums_next, Node.sums_none}
use Rattle.extract_partners.proofs.count_long.Goals as goal

pub loop-i-init : goal.loop-i-init
loop-i-init c = partly-first _ _ _

pub loop-i-preserved : goal.loop-i-preserved
loop-i-preserved c =
    let f = cubes_of c.args.f.now in
    let i = c.loop-i.i in
    let rest = c.part.ensures.0 ∙ take_all (c.number-n.result - (i + 1)) (drop (i + 1) f)
    (omega (arith, length-drop (i + 1) f, c.number-n.ensures)) in
    partly-then c.loop-i.invariant c.count_row.ensures (λ k. sums_next k f i (omega (arith, c.number-n.ensures))
    ∙ ap (sums_gain k (drop (i + 1) f) +◌) (ap₂ (row_gain k) (sym c.cube_at.ensures) (sym rest)))

pub returns : goal.returns
returns c =
    let f = cubes_of c.args.f.now in
    let e : drop c.loop-i.i f ≡ [] = drop_of_length-le f {i = c.loop-i.i} (omega (arith, c.number-n.ensures)) in
    partly-end c.loop-i.invariant (λ k. ap (sums_gain k) e ∙ sums_none k)
