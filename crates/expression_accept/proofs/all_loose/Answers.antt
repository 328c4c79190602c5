-- `expression_accept::all_loose` meets its contract: what the chain over the places answers. Assumes nothing.
use mathlib.Core.Path.{refl, ◌∙◌}
use mathlib.Core.List.{[]}
use native.Mathlib.Omega.{arith}
use borrow.Author.Rules.{rules}
use borrow.Author.Tests.{tests}
use Rattle.std.proofs.lemmas.Iterator.{YieldsList-from_range}
use Rattle.sets.proofs.Chains.{all-chain}
use Rattle.expression.specs.{Words.cubes_of, Expression.loose}
use Rattle.expression_accept.proofs.Accepting.{from_place, places-pairwise}
use Rattle.expression_accept.proofs.all_loose.Goals as goal

pub returns : goal.returns
returns c =
    let f = cubes_of c.args.s.now in
    all-chain (from_place loose [] f) c.all.new.self _ _ c.all.ensures.ran (YieldsList-from_range 0 c.number.result c.number.result refl (omega arith)) (λ x b q k. search (rules, tests))
    ∙ places-pairwise loose [] f 0 c.number.result (omega (arith, c.number.ensures))
