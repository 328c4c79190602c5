-- `report::put_divisor` meets its contract: the literals of a pair, or the parts of a sum. Assumes nothing.
use mathlib.Core.Path.{◌∙◌, ap}
use native.Mathlib.Omega.{arith}
use Rattle.letters.proofs.Laying.{due_all, due-next, due-last}
use Rattle.extract_divisor.specs.Divisor.{divisor_of}
use Rattle.report.specs.Report.{divisor_text}
use Rattle.report.proofs.{Lines.pair-start, Lines.sum-start}
use Rattle.report.proofs.put_divisor.Goals as goal

-- a pair
pub returns-in-Pair : goal.returns-in-Pair
returns-in-Pair c =
    let pair = ap (λ d. divisor_text (divisor_of d)) c.in-Pair.is ∙ pair-start _ _ in
    due-last (due-next (due-next (due_all _ _ (omega arith) (omega arith) pair) c.put_literal-p.ensures) c.put-q.ensures)
    c.put_literal.ensures

-- a sum
pub returns-in-Sum : goal.returns-in-Sum
returns-in-Sum c =
    let sum = ap (λ d. divisor_text (divisor_of d)) c.in-Sum.is ∙ sum-start _ _ in
    due-last (due-next (due-next (due_all _ _ (omega arith) (omega arith) sum) c.put_product-p.ensures) c.put_bytes-q.ensures)
    c.put_product.ensures
