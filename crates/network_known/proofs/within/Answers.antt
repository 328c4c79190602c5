-- `network_known::within` meets its contract: a chain over the cubes, by every or by some. Assumes nothing.
use Rattle.std.proofs.Common.{rules}
use borrow.Author.Tests.{tests}
use Rattle.sets.specs.Sets.{sub}
use Rattle.cube.specs.Cube.{lits}
use Rattle.expression.proofs.Chains.{all-each, any-each}
use Rattle.network_known.proofs.within.Goals as goal

pub returns-then-every : goal.returns-then-every
returns-then-every c =
    rw c.if-every.true (all-each (λ x. sub x (lits c.args.k)) c.all.new.self _ _ c.all.ensures.ran c.each-cubes.ensures (λ x b q k. search (rules, tests)))

pub returns-else-every : goal.returns-else-every
returns-else-every c =
    rw c.if-every.false (any-each (λ x. sub x (lits c.args.k)) c.any.new.self _ _ c.any.ensures.ran c.each-cubes.ensures (λ x b q k. search (rules, tests)))
