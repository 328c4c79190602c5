-- The answers of `report::put_steps`.
use Prim.Native.Nat.{◌≤◌}
use mathlib.Core.Path.{◌∙◌, ap}
use mathlib.Core.List.{map}
use native.Mathlib.Omega.{arith}
use lib.ListN.{length, take, length-map, drop_of_length-le}
use Rattle.letters.proofs.Laying.{due-as, due-next, due-done}
use Rattle.extract.specs.Answers.{made_of}
use Rattle.report.specs.Report.{step_lines}
use Rattle.report.proofs.Lines.{lines_none, made-next}
use Rattle.report.proofs.put_steps.Goals as goal

pub loop-s-preserved : goal.loop-s-preserved
unfolding step_lines
loop-s-preserved c =
    let l = take c.args.steps.now.count c.args.steps.now.list in
    due-next (due-as c.loop-s.invariant (ap step_lines (made-next l c.loop-s.s-index c.loop-s-test.true))) c.put_step-p.ensures

pub returns : goal.returns
returns c =
    let l = take c.args.steps.now.count c.args.steps.now.list in
    let e : length (map made_of l) ≤ c.loop-s.s-index = omega (arith, c.loop-s-test.false, length-map l made_of) in
    due-done (due-as c.loop-s.invariant (ap step_lines (drop_of_length-le (map made_of l) e) ∙ lines_none))
