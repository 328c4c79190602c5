-- The answers of `expression_survey::literals`.
use Rattle.std.proofs.Common.{rules, ◌∙◌, ◌+◌, min, length}
use borrow.Author.Tests.{tests}
use Rattle.sets.specs.Word.{largest}
use Rattle.expression.specs.Words.{cubes_of}
use Rattle.expression.proofs.Chains.{fold-each}
use Rattle.expression_survey.proofs.Counting.{counts-fold}
use Rattle.expression_survey.proofs.literals.Goals as goal

pub returns : goal.returns
returns c = fold-each (λ a d. min (a + length d) largest) _ 0 _ c.fold.ensures.ran c.each.ensures (λ a x b q k. search (rules, tests)) ∙ counts-fold (cubes_of c.args.s.now)
