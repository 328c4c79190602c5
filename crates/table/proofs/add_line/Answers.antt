-- `table::add_line` meets its contract: what the reading of a cube line says is what the table does with it. Assumes nothing.
use Rattle.table.proofs.Adding.{cube-other, cube-behind, cube-over, cube-within}
use Rattle.table.proofs.add_line.Goals as goal

pub returns-in_default-cube_line : goal.returns-in_default-cube_line
returns-in_default-cube_line c =
    λ t g h. rw (cube-other g h _ c.in-Some.is c.in-Some-outputs.is c.cube_line.ensures c.in_default-cube_line.is)

pub returns-then-rows-s : goal.returns-then-rows-s
returns-then-rows-s c =
    λ t g h. let b = cube-behind g h _ c.in-Some.is c.in-Some-outputs.is c.cube_line.ensures _ _ _ c.in-Line.is in
    rw (cube-over g h _ c.in-Some.is c.in-Some-outputs.is b c.if-rows-s.true)

pub returns : goal.returns
returns c =
    λ t g h. let b = cube-behind g h _ c.in-Some.is c.in-Some-outputs.is c.cube_line.ensures _ _ _ c.in-Line.is in
    rw (cube-within g h _ c.in-Some.is c.in-Some-outputs.is b c.if-rows-s.false c.requires.rows)
    (c.keep_line.ensures t b.line h b.cube b.mask b.rows)
