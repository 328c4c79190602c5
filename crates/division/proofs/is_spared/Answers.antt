-- `division::is_spared` meets its contract: what the chain answers. Assumes nothing.
use mathlib.Core.Bool.{not, ◌&&◌}
use borrow.Author.Rules.{rules}
use borrow.Author.Tests.{tests}
use Rattle.sets.specs.Sets.{sub, without}
use Rattle.cube.specs.Cube.{lits}
use Rattle.expression.specs.{Words.cubes_of, Expression.has}
use Rattle.expression.proofs.Chains.{all-each}
use Rattle.division.specs.Parts.{spared}
use Rattle.division.proofs.is_spared.Goals as goal

pub returns : goal.returns
unfolding spared
returns c =
    all-each (λ b. not (sub b (lits c.args.e) && has (without (lits c.args.e) b) (cubes_of c.args.q.now))) c.all.new.self _ _
    c.all.ensures.ran c.each.ensures (λ x b q k. search (rules, tests))
