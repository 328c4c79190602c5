-- The answers of `extract_rows::count_pairs_of`.
use mathlib.Core.{Path.ap, Path.◌∙◌}
use Rattle.cube_order.proofs.Chains.{left}
use Rattle.extract_keys.proofs.Keys.{pair-key-of}
use Rattle.extract_rows.specs.Parts.{pairs_with}
use Rattle.extract_rows.proofs.Counting.{due_all, due-next, due-done, led-inside, with_none, with-next}
use Rattle.extract_rows.proofs.count_pairs_of.Goals as goal

pub loop-q-init : goal.loop-q-init
loop-q-init c = due_all _ _ _ (λ k. ap (λ s. pairs_with k c.args.p.0 (left s)) c.into_iter-q-iterator.ensures.into_iter_gives)

pub loop-q-preserved : goal.loop-q-preserved
loop-q-preserved c =
    let e = pair-key-of _ _ c.requires (led-inside _ c.in-Some.ensures.steps) in
    due-next _ c.loop-q.invariant c.count_use.ensures (λ k. with-next k _ c.in-Some.ensures.steps (c.pair_key.ensures ∙ e))

pub returns : goal.returns
returns c = due-done c.loop-q.invariant (λ k. with_none k _ c.in-None.ensures.steps.0)
