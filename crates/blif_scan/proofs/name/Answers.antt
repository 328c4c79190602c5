-- `blif_scan::name` meets its contract: the letter, then the number. Assumes nothing.
use native.Mathlib.Omega.{arith}
use Rattle.blif_scan.proofs.Numerals.{called-variable, called-output, called-none, called-not, called-cut}
use Rattle.blif_scan.proofs.name.Goals as goal

pub returns-in_err-b : goal.returns-in_err-b
returns-in_err-b c = rw c.from_residual.ensures (called-cut c.args.s.now c.args.at c.in_err-b.ensures)

pub returns-in_err-n : goal.returns-in_err-n
returns-in_err-n c = rw c.from_residual-in_err-n.ensures (called-none _ _ _ _ c.in_ok-b.ensures c.in_err-n.ensures)

pub returns-in-120 : goal.returns-in-120
returns-in-120 c = called-variable _ _ _ _ c.in_ok-b.ensures c.in-120.is _ _ c.in_ok-n.ensures

pub returns-in-121 : goal.returns-in-121
returns-in-121 c = called-output _ _ _ _ c.in_ok-b.ensures c.in-121.is _ _ c.in_ok-n.ensures

pub returns-in_default : goal.returns-in_default
returns-in_default c = called-not _ _ _ _ c.in_ok-b.ensures (omega arith) (omega arith)
