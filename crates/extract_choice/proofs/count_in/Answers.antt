-- The answers of `extract_choice::count_in`.
use mathlib.Core.Path.{sym, ◌∙◌}
use Rattle.extract_divisor.proofs.Using.{found-use}
use Rattle.extract_choice.proofs.Counting.{counting-on, counting-off}
use Rattle.extract_choice.proofs.count_in.Goals as goal

pub loop-c-preserved-then-is_use : goal.loop-c-preserved-then-is_use
loop-c-preserved-then-is_use c =
    counting-on c.loop-c.invariant c.in-Some.ensures.steps (sym (c.is_use.ensures ∙ found-use _ _ _ _ c.requires.1) ∙ c.if-is_use.true)

pub loop-c-preserved : goal.loop-c-preserved
loop-c-preserved c =
    counting-off c.loop-c.invariant c.in-Some.ensures.steps (sym (c.is_use.ensures ∙ found-use _ _ _ _ c.requires.1) ∙ c.if-is_use.false)
