-- `expression_absorb::absorb_part` meets its contract: the part is absorbed and put back. Assumes nothing.
use mathlib.Core.Path.{◌∙◌, ap}
use lib.ListN.{length}
use Rattle.expression.{specs.Expression.absorbed, proofs.Words.part_of, proofs.Words.placed_by, proofs.Absorbing.absorbed-length}
use Rattle.expression_absorb.proofs.absorb_part.Goals as goal

pub returns : goal.returns
returns c =
    let w = c.words_of-p.ensures in
    let r = c.absorb.ensures in
    record {
      number = r.number ∙ ap (λ f. length (absorbed f)) (part_of _ _ _ _ _ w).0;
      cubes = placed_by _ _ _ _ _ w absorbed absorbed-length _ r.cubes;
    }
