-- `blif_read::pass` meets its contract: what keyword, names and rows answer is put together. Assumes nothing.
use Rattle.blif_read.proofs.Counting.{passed-end, passed-unnamed, passed-rowless, passed-one}
use Rattle.blif_read.proofs.defining.pass.Goals as goal

pub returns-in_err-p : goal.returns-in_err-p
returns-in_err-p c = rw c.from_residual.ensures (passed-end c.args.s.now c.args.at c.args.base c.args.marks.now c.in_err-p.ensures)

pub returns-in_err-d : goal.returns-in_err-d
returns-in_err-d c =
    rw c.from_residual-in_err-d.ensures
    (passed-unnamed c.args.s.now c.args.at c.args.base c.args.marks.now c.in_ok-p.p c.in_ok-p.ensures c.in_err-d.ensures)

pub returns-in_err-rows : goal.returns-in_err-rows
returns-in_err-rows c =
    rw c.from_residual-in_err-rows.ensures
    (passed-rowless c.args.s.now c.args.at c.args.base c.args.marks.now c.in_ok-p.p c.in_ok-p.ensures c.in_ok-d.ensures c.in_err-rows.ensures)

pub returns : goal.returns
returns c = passed-one c.args.s.now c.args.at c.args.base c.args.marks.now c.in_ok-p.p c.in_ok-p.ensures c.in_ok-d.ensures c.in_ok-rows.ensures
