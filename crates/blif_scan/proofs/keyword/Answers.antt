-- `blif_scan::keyword` meets its contract: what ends the word stands after all its bytes. Assumes nothing.
use mathlib.Core.Path.{◌∙◌, ap}
use mathlib.Core.List.{◌++◌}
use native.Mathlib.Omega.{arith}
use lib.Seq.{take_all}
use Rattle.blif_scan.specs.Scanning.{left}
use Rattle.blif_scan.proofs.Scanning.{ended-past}
use Rattle.blif_scan.proofs.keyword.Goals as goal

pub returns : goal.returns
returns c =
    let s = c.args.s.now in
    let w = c.args.w.now in
    let p = c.loop-c.p in
    ended-past s w c.args.at p (c.loop-c.invariant.1 ∙ ap (◌++ left s p) (take_all c.loop-c.c-index w (omega arith))) c.loop-c.invariant.0
    c.end_of_word.result c.end_of_word.ensures
