-- The answers of `extract_keep::fill_node`.
use mathlib.Core.{Path.refl, Path.sym, Path.ap, Path.◌∙◌}
use native.Mathlib.Omega.{arith}
use Rattle.sets.specs.Lists.{total}
use Rattle.expression.specs.Words.{cubes_of}
use Rattle.expression.proofs.Chains.{left}
use Rattle.extract_gains.proofs.Table.{turns_then, turns_as}
use Rattle.extract_counts.{specs.Counts.pairs_gain, proofs.Turning.node-parts}
use Rattle.extract_partners.proofs.Turning.{partly-first, partly-as, partly-then, partly-end}
use Rattle.extract_keep.proofs.fill_node.Goals as goal

pub loop-c-init : goal.loop-c-init
loop-c-init c =
    partly-as (partly-first _ _ _)
    (λ k. ap (total (pairs_gain k)) (sym (ap left c.into_iter-c-iterator.ensures.into_iter_gives ∙ ap cubes_of c.each-c-items.ensures)))

pub loop-c-preserved : goal.loop-c-preserved
loop-c-preserved c = partly-then c.loop-c.invariant c.count_pairs.ensures (λ k. omega (arith, ap (total (pairs_gain k)) c.in-Some.ensures.steps))

pub returns : goal.returns
returns c =
    turns_as (λ k. refl) (λ k. omega (arith, node-parts k (cubes_of c.args.f.now)))
    (turns_then (partly-end c.loop-c.invariant (λ k. ap (total (pairs_gain k)) c.in-None.ensures.steps.0)) c.count_sums.ensures)
