-- `blif_read::is_once` meets its contract: the variables are tested with the inputs, then the outputs with no input. Assumes nothing.
use Prim.Native.Nat.{◌≤◌}
use mathlib.Core.Path.{◌∙◌}
use native.Mathlib.Omega.{arith}
use Rattle.sets.specs.Word.{largest}
use Rattle.blif_read.proofs.Tallying.{once-none, once-both}
use Rattle.blif_read.proofs.defining.is_once.Goals as goal

pub returns-then-are_defined : goal.returns-then-are_defined
returns-then-are_defined c = λ bs b k.
    let fit : c.args.m ≤ largest = omega (arith, c.ranges.m) in
    once-both c.args.n c.args.m bs c.args.top (c.are_defined.ensures c.args.m bs fit b k) c.if-are_defined.true
    (c.are_defined-then-are_defined.ensures c.args.m bs fit b k)

pub returns-else-are_defined : goal.returns-else-are_defined
returns-else-are_defined c = λ bs b k.
    let fit : c.args.m ≤ largest = omega (arith, c.ranges.m) in
    c.if-are_defined.false ∙ once-none c.args.n c.args.m bs c.args.top (c.are_defined.ensures c.args.m bs fit b k) c.if-are_defined.false
