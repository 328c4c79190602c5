-- `expression_survey::is_ordered` meets its contract: what `is_sorted_by` answers. Assumes nothing.
use borrow.Author.Rules.{rules}
use borrow.Author.Tests.{tests}
use Rattle.cube.specs.Cube.{order_of}
use Rattle.expression_survey.proofs.Neighbours.{ordered-each}
use Rattle.expression_survey.proofs.is_ordered.Goals as goal

pub returns : goal.returns
unfolding order_of
returns c = ordered-each _ c.is_sorted_by.result c.is_sorted_by.ensures.runs c.each.ensures (λ x y b q k. search (rules, tests))
