-- `report::put_step` meets its contract: the parts of the line, one after the other. Assumes nothing.
use mathlib.Core.Path.{sym, ap, ◌∙◌}
use native.Mathlib.Omega.{arith}
use lib.IntN.{pos}
use Rattle.letters.proofs.Laying.{due_all, due-next, due-last}
use Rattle.extract_divisor.specs.Divisor.{divisor_of}
use Rattle.report.specs.Report.{step_line}
use Rattle.report.proofs.{Lines.step_start, Counting.sized-read}
use Rattle.report.proofs.put_step.Goals as goal

-- the states of the walk: after the name, ` = `, the divisor, its weight and the count
pub returns : goal.returns
returns c =
    let s = c.args.s.now in
    let line = ap (λ w. step_line s.number.0 (divisor_of s.divisor) w (pos s.literals)) (sym (c.size.ensures ∙ sized-read s.weight c.requires)) ∙ step_start _ _ _ _ in
    let from-equals = due-next (due_all _ _ (omega arith) (omega arith) line) (rw c.from.ensures at c.put_name-p.ensures) in
    let from-weight = due-next (due-next from-equals c.put_bytes-q.ensures) c.put_divisor-r.ensures in
    due-last (due-next (due-next from-weight c.put_field-t.ensures) c.put_field-u.ensures) c.put.ensures
