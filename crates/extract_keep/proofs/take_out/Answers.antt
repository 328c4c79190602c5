-- `extract_keep::take_out` meets its contract. Assumes nothing.
use Rattle.extract_keep.proofs.{Keeping.gone-shift}
use Rattle.extract_keep.proofs.take_out.Goals as goal

pub returns : goal.returns
returns c =
    gone-shift _ _ _ _ c.args.a.now c.args.b.now c.args.i c.args.j _ c.requires c.number-n.ensures c.cube_at.ensures c.part.ensures.0
    c.part-2.ensures.0 c.count_cube.ensures
