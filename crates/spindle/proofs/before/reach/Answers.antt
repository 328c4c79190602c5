-- The answers of `before::reach`, whose loop's invariant stands beside. Assumes nothing.
use Rattle.std.proofs.Common.{◌≡◌, ◌≤◌, length, drop, ap, ◌∙◌, arith}
use Rattle.table_lines.{specs.Text.line_of, proofs.Lining.line-part, proofs.Lining.line-ends}
use Rattle.spindle.specs.Before.{after}
use Rattle.spindle.proofs.Reaching.{walk_first, walk-done, walk-next, walk-over}
use Rattle.spindle.proofs.before.reach.Goals as goal
use Rattle.spindle.proofs.before.reach.Goals.{After-after-seen, After-line_end-e}

-- a line ends no sooner than it begins, and within the text
ends : (c : After-line_end-e) → (c.loop-i.at ≤ c.line_end-e.result) × (c.line_end-e.result ≤ length c.args.text.now)
ends c = line-ends _ _ _ c.line_end-e.ensures c.loop-i.invariant.inside

-- what is told after it
told : (c : After-after-seen)
    → c.after-seen.result ≡ after c.loop-i.seen (line_of (drop c.loop-i.at c.args.text.now))
told c = c.after-seen.ensures ∙ ap (after _) (line-part _ _ _ c.line_end-e.ensures)

pub after-seen-requires : goal.after-seen-requires
after-seen-requires c = omega (arith, c.loop-i.invariant.few, c.ranges.line)

pub returns-then-e-text : goal.returns-then-e-text
returns-then-e-text c =
    walk-over _ _ _ _ _ c.loop-i.invariant _ c.line_end-e.ensures _ (told (goal.at.returns-then-e-text c).After-after-seen)
    c.loop-i-test.true c.if-e-text.true

pub loop-i-preserved : goal.loop-i-preserved
loop-i-preserved c =
    walk-next _ _ _ _ _ c.loop-i.invariant _ c.line_end-e.ensures _ (told (goal.at.loop-i-preserved c).After-after-seen)
    c.loop-i-test.true c.if-e-text.false

pub returns : goal.returns
returns c = walk-done _ _ _ _ _ c.loop-i.invariant c.loop-i-test.false

pub loop-i-init : goal.loop-i-init
loop-i-init c = walk_first _ _

pub slice_bounds-after-count : goal.slice_bounds-after-count
slice_bounds-after-count c = (ends c).0

pub slice_bounds-after-end : goal.slice_bounds-after-end
slice_bounds-after-end c = (ends c).1
