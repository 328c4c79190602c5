-- `table_columns::place_of` meets its contract: the place in what is left of the line, counted from the line's start. Assumes nothing.
use Prim.Native.Nat.{◌+◌, ◌-◌, ◌≤◌}
use mathlib.Core.Path.{◌≡◌}
use native.Mathlib.Omega.{arith}
use lib.ListN.{length}
use Rattle.table_columns.{specs.Columns.unless_zero, specs.Columns.place_of, proofs.Counting.span-within, proofs.Counting.place_found}
use Rattle.table_columns.proofs.place_of.Goals as goal
use Rattle.table_columns.proofs.place_of.Goals.{After-content_of-span, After-place_in-p}

inside : (c : After-content_of-span) → let s = c.content_of-span.result in (s.start ≤ s.end) × (s.end ≤ length c.args.l.now)
inside c = span-within c.args.l.now c.content_of-span.result c.content_of-span.ensures

-- the place in the line
placed : (q : After-place_in-p) → let r = q.place_in-p.result in let s = q.content_of-span.result in
    let a = q.args in let p = place_of a.number (unless_zero a.n) (unless_zero a.m) a.k a.l.now in
    (s.start + r ≤ length a.l.now) × (r ≡ s.end - s.start → length a.l.now ≡ p) × ((r ≡ s.end - s.start → ⊥) → s.start + r ≡ p)
placed q = let a = q.args in
    place_found a.number (unless_zero a.n) (unless_zero a.m) a.k a.l.now q.content_of-span.result q.content_of-span.ensures q.place_in-p.result
    q.place_in-p.ensures

pub overflow_add-result : goal.overflow_add-result
overflow_add-result c = record { fits = omega (arith, (placed (goal.at.overflow_add-result c).After-place_in-p).0) }

pub slice_bounds-place_in-end : goal.slice_bounds-place_in-end
slice_bounds-place_in-end c = (inside (goal.at.slice_bounds-place_in-end c).After-content_of-span).1

pub returns-then-p-span : goal.returns-then-p-span
returns-then-p-span c = (placed (goal.at.returns-then-p-span c).After-place_in-p).1 c.if-p-span.true

pub returns : goal.returns
returns c = (placed (goal.at.returns c).After-place_in-p).2 c.if-p-span.false
