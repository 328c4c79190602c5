-- `cube_sets::count` meets its contract. Assumes nothing.
use borrow.Author.Rules.{rules}
use mathlib.Core.Path.{sym}
use native.Mathlib.Omega.{arith}
use lib.Count.{ones-le}
use Rattle.sets.proofs.Literals.{literals-length}
use Rattle.cube_sets.proofs.count.Goals as goal

pub overflow_add-result : goal.overflow_add-result
overflow_add-result c = omega (arith, ones-le 64 c.args.c.plain (search rules), ones-le 64 c.args.c.negated (search rules))

pub returns : goal.returns
returns c = sym (literals-length 64 _ _ (search rules) (search rules))
