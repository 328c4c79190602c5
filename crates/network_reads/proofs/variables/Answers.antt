-- `network_reads::variables` meets its contract: a fold that marks the variable of each literal. Assumes nothing.
use Rattle.std.proofs.Common.{rules, ◌≡◌, ◌/◌, ◌%◌}
use borrow.Author.Tests.{tests}
use Rattle.sets.{specs.Literal.plain_of, proofs.Chains.fold-keeps}
use Rattle.cube.specs.Cube.{lits, joined}
use Rattle.cube_order.proofs.Chains.{each-list}
use Rattle.network_reads.proofs.Reading.{Passed, passed-first, passed-next, passed-done}
use Rattle.network_reads.proofs.variables.Goals as goal

pub returns : goal.returns
returns c =
    let d = c.args.c in
    passed-done (fold-keeps (λ a rest. Passed (lits a) rest (lits d)) _
    (λ a l ys b q i k. let u : lits b ≡ joined (plain_of (l.0 / 2) % 4294967296) (lits a) = search (rules, tests) in (search rules, passed-next i u))
    _ _ c.fold.ensures.ran (each-list c.each.ensures) (passed-first d c.empty.ensures))
