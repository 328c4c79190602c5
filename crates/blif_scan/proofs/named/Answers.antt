-- `blif_scan::named` meets its contract: the letter, then the number. Assumes nothing.
use native.Mathlib.Omega.{arith}
use Rattle.letters.specs.Letters.{decimal}
use Rattle.blif_scan.proofs.Numerals.{lettered-none, numeral-other}
use Rattle.blif_scan.proofs.named.Goals as goal

pub returns-in_err-n : goal.returns-in_err-n
returns-in_err-n c =
    rw c.from_residual-in_err-n.ensures
    (lettered-none _ _ _ _ c.in_ok-b.ensures c.args.letter (decimal c.args.k) (c.in_err-n.ensures c.args.k (omega (arith, c.ranges.k))))

pub returns-else-n-k : goal.returns-else-n-k
returns-else-n-k c =
    lettered-none _ _ _ _ c.in_ok-b.ensures c.args.letter (decimal c.args.k)
    (numeral-other c.args.s.now c.in_ok-b.p c.in_ok-n.n c.args.k c.if-n-k.false c.in_ok-n.e c.in_ok-n.ensures)
