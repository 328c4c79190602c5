-- `extract_partners::enter` meets its contract. Assumes nothing.
use Prim.Native.Nat.{◌%◌}
use mathlib.Core.Path.{refl}
use native.Mathlib.Omega.{arith}
use Rattle.extract_partners.specs.Table.{first}
use Rattle.extract_partners.proofs.{Entering.grown-enters}
use Rattle.extract_partners.proofs.enter.Goals as goal

pub returns : goal.returns
returns c =
    grown-enters c.args.r.now c.args.e (c.args.code % first) c.args.code c.requires.0 c.requires.1 (omega arith) refl
