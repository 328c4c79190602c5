-- `image_number::put_node` meets its contract: the cubes put are sorted in place. Assumes nothing.
use native.Mathlib.Omega.{arith}
use lib.ListN.{length-map}
use Rattle.expression.{specs.Words.cubes_of, proofs.Words.cubes-few, proofs.Placing.placed-sort}
use Rattle.image_number.specs.Parts.{cube_by}
use Rattle.image_number.proofs.put_node.Goals as goal

pub overflow_add-e : goal.overflow_add-e
overflow_add-e c = omega (arith, c.requires.1, c.number.ensures, cubes-few c.args.out.now)

pub returns : goal.returns
returns c =
    let e = length-map (cubes_of c.args.f.now) (cube_by c.args.places.now) in
    placed-sort c.copy.ensures (omega (arith, c.requires.1)) (omega (arith, e, c.number.ensures)) c.sort_part.ensures
