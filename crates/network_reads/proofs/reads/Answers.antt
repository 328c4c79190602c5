-- `network_reads::reads` meets its contract: a fold that gathers the literals, and their variables. Assumes nothing.
use Rattle.std.proofs.Common.{rules, ◌≡◌}
use borrow.Author.Tests.{tests}
use Rattle.sets.specs.Sets.{union}
use Rattle.sets.proofs.Chains.{fold-keeps}
use Rattle.cube.specs.Cube.{lits}
use Rattle.expression.specs.Words.{cubes_of}
use Rattle.expression.proofs.Chains.{each-list}
use Rattle.network_reads.proofs.Reading.{Together, together-first, together-next, together-done}
use Rattle.network_reads.proofs.reads.Goals as goal

pub returns : goal.returns
returns c =
    let f = cubes_of c.args.f.now in
    together-done (fold-keeps (λ a rest. Together f (lits a) rest) _
    (λ a x ys b q i k. let u : lits b ≡ union (lits a) (lits x) = search (rules, tests) in (search rules, together-next i u))
    _ _ c.fold.ensures.ran (each-list c.each.ensures) (together-first f c.empty.ensures)) c.variables.ensures
