-- `division::fits_all` meets its contract: what the chain answers. Assumes nothing.
use mathlib.Core.Bool.{◌&&◌}
use borrow.Author.Rules.{rules}
use borrow.Author.Tests.{tests}
use Rattle.sets.specs.Sets.{apart, union}
use Rattle.cube.specs.Cube.{lits}
use Rattle.expression.specs.{Words.cubes_of, Expression.has}
use Rattle.expression.proofs.Chains.{all-each}
use Rattle.division.specs.Division.{in_quotient}
use Rattle.division.proofs.fits_all.Goals as goal

pub returns : goal.returns
unfolding in_quotient
returns c =
    all-each (λ b. apart (lits c.args.c) b && has (union (lits c.args.c) b) (cubes_of c.args.f.now)) c.all.new.self _ _
    c.all.ensures.ran c.each.ensures (λ x b q k. search (rules, tests))
