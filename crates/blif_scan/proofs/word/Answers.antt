-- The answers of `blif_scan::word`.
use mathlib.Core.Path.{sym, ◌∙◌}
use Rattle.blif_scan.proofs.Heading.{pass-next, word-is, word-odd}
use Rattle.blif_scan.proofs.word.Goals as goal

pub returns-then-at-p : goal.returns-then-at-p
returns-then-at-p c = word-is _ _ _ c.loop-b.invariant _ _ c.in_ok-b.ensures c.if-b-eq10.true c.if-at-p.true

pub returns-then-not-is_plain : goal.returns-then-not-is_plain
returns-then-not-is_plain c =
    word-odd _ _ _ c.loop-b.invariant _ _ c.in_ok-b.ensures c.if-b-eq10.false (sym c.is_plain.ensures ∙ c.if-not-is_plain.true)

pub loop-b-preserved : goal.loop-b-preserved
loop-b-preserved c = pass-next _ _ _ c.loop-b.invariant _ _ c.in_ok-b.ensures (sym c.is_plain.ensures ∙ c.if-not-is_plain.false)
