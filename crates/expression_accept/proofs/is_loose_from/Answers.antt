-- `expression_accept::is_loose_from` meets its contract: what the chain over the later cubes answers. Assumes nothing.
use Prim.Native.Nat.{◌+◌}
use mathlib.Core.Path.{◌∙◌}
use native.Mathlib.Omega.{arith}
use borrow.Author.Rules.{rules}
use borrow.Author.Tests.{tests}
use Rattle.cube.specs.Cube.{lits}
use Rattle.expression.specs.{Words.cubes_of, Expression.loose}
use Rattle.std.proofs.lemmas.List.{take_rest}
use Rattle.expression.proofs.{Words.cubes-few, Chains.all-each}
use Rattle.expression_accept.proofs.is_loose_from.Goals as goal

pub overflow_add-i : goal.overflow_add-i
overflow_add-i c = omega (arith, cubes-few c.args.s.now)

pub returns : goal.returns
returns c =
    all-each (loose (lits c.cube_at-c.result)) c.all.new.self _ _ c.all.ensures.ran c.each.ensures (λ x b q k. search (rules, tests))
    ∙ rw (c.part-later.ensures.0, c.number.ensures, take_rest (cubes_of c.args.s.now) (c.args.i + 1), c.cube_at-c.ensures)
