-- `table_columns::row_place` meets its contract: the marks stand at the end. Assumes nothing.
use Rattle.std.proofs.Common.{◌≡◌, ◌∙◌, ◌≤◌, sym, ap, arith, length, drop}
use lib.ListN.{length-drop}
use Rattle.table_lines.{specs.Text.trim_front, proofs.Ends.rest-whole, proofs.Ends.front-le}
use Rattle.table_columns.{proofs.Counting.one-bound, proofs.Counting.row-short, proofs.row_place.Goals.After-trim_front-o}
use Rattle.table_columns.proofs.row_place.Goals as goal

pub returns-in_default : goal.returns-in_default
returns-in_default c = let a = c.args in sym (row-short a.n a.k a.c.now (omega (arith, c.in_default.ensures.lookup)))

-- what stands after the places and the blanks
marks : (c : After-trim_front-o) → c.trim_front-o.result.now ≡ trim_front (drop c.args.n c.args.c.now)
marks c = let a = c.args in c.trim_front-o.ensures ∙ ap trim_front (c.in-Some.ensures.lookup.0.2 ∙ rest-whole a.n a.c.now)

inside : (c : After-trim_front-o) → length c.trim_front-o.result.now ≤ length c.args.c.now
inside c = let a = c.args in omega (arith, ap length (marks c), front-le (drop a.n a.c.now), length-drop a.n a.c.now)

pub overflow_add-result : goal.overflow_add-result
overflow_add-result c =
    let a = c.args in
    record { fits = omega (arith, inside (goal.at.overflow_add-result c).After-trim_front-o, c.one_place.ensures, one-bound a.k c.trim_front-o.result.now) }

pub overflow_sub-result : goal.overflow_sub-result
overflow_sub-result c = omega (arith, inside c)
