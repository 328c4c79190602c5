-- `report::report` meets its contract: the length is found with no room, and then the report is written or refused. Assumes nothing.
use mathlib.Core.Path.{refl}
use mathlib.Core.List.{[]}
use native.Mathlib.Omega.{arith}
use lib.ListN.{length}
use Rattle.letters.{specs.Laid.Laid, proofs.Telling.told-long, proofs.Telling.told-whole}
use Rattle.letters.proofs.Laying.{laid_as, laid-whole, laid-long, laid-short}
use Rattle.report.specs.Report.{report_of}
use Rattle.report.proofs.report.Goals as goal
use Rattle.report.proofs.report.Goals.{After-put_found-n}

-- what is counted is the report
whole : (c : After-put_found-n) → Laid [] c.put_found-n.new.o 0 c.put_found-n.result (report_of c.args.text.now)
whole c = laid_as c.put_found-n.ensures c.find-found.ensures

pub returns-then-room-n : goal.returns-then-room-n
returns-then-room-n c =
    let o = c.args.room.now in
    told-long _ o o (laid-long (whole (goal.at.returns-then-room-n c).After-put_found-n) (length o) (omega arith) (omega (arith, c.if-room-n.true))) refl

pub returns : goal.returns
returns c =
    let o = c.args.room.now in
    let n = laid-short (whole (goal.at.returns c).After-put_found-n) (length o) (omega arith) (omega (arith, c.if-room-n.false)) in
    told-whole _ _ _ _ (omega arith) n (laid-whole (laid_as c.put_found.ensures c.find-found.ensures) (omega arith))
