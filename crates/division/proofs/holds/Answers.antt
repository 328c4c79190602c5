-- `division::holds` meets its contract: in cube order the search finds a cube exactly where it is one of them. Assumes nothing.
use mathlib.Core.Path.{◌≡◌, ◌∙◌}
use borrow.Author.Rules.{rules}
use Rattle.sets.specs.Lists.{is_some}
use Rattle.cube.specs.Cube.{lits}
use Rattle.expression.specs.Words.{cubes_of}
use Rattle.expression_survey.specs.Search.{find_in}
use Rattle.expression_survey.proofs.Searching.{find-has}
use Rattle.division.proofs.holds.Goals as goal

pub returns : goal.returns
returns c =
    let e : c.is_some.result ≡ is_some (find_in (lits c.args.c) (cubes_of c.args.s.now)) = search rules in
    e ∙ find-has _ _ c.requires
