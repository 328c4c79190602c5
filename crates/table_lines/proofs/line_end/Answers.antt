-- `table_lines::line_end` meets its contract: the end of a line is its first LF. Assumes nothing.
use Rattle.std.proofs.Common.{◌≡◌, ◌∙◌, ◌+◌, ℕ, [], sym, ap, arith, eqb, drop}
use Rattle.std.{proofs.Math.ListN.drop_of_length-le, proofs.lemmas.List.Sums.prefix_len-le-length, specs.List.position_or_len}
use Rattle.table_lines.{specs.Text.line_of, proofs.Ends.rest-whole, proofs.Ends.line-length}
use Rattle.table_lines.proofs.line_end.Goals as goal

pub returns-in_default : goal.returns-in_default
unfolding line_of
returns-in_default c = let d : drop c.args.at c.args.t.now ≡ [] = drop_of_length-le c.args.t.now (omega (arith, c.in_default.ensures.lookup)) in
    rw d (omega arith)

pub overflow_add-result : goal.overflow_add-result
overflow_add-result c = record { fits = omega (arith, c.in-Some.ensures.lookup, c.find.ensures, prefix_len-le-length {X = ℕ}) }

pub returns : goal.returns
returns c = let t = c.args.t.now in
    ap (λ (k : ℕ). c.args.at + k)
    (c.find.ensures ∙ ap (position_or_len (λ x. eqb x 10)) (c.in-Some.ensures.lookup.0.2 ∙ rest-whole c.args.at t) ∙ sym (line-length (drop c.args.at t)))
