-- `report::put_stop` meets its contract: one word for each reason. Assumes nothing.
use Rattle.std.proofs.Common.{arith}
use Rattle.std.proofs.lemmas.Grind.{common_steps}
use Rattle.letters.proofs.Laying.{laid_as}
use Rattle.report.specs.Report.{stop_text}
use Rattle.report.proofs.put_stop.Goals as goal

pub returns : goal.returns
unfolding stop_text
returns c = laid_as c.put_bytes.ensures (grind (arith, common_steps))
