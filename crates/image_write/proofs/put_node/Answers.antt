-- The answers of `image_write::put_node`.
use mathlib.Core.Path.{◌∙◌, sym, ap}
use mathlib.Core.List.{◌++◌}
use native.Mathlib.Omega.{arith}
use Rattle.cube.specs.Cube.{lits}
use Rattle.expression.specs.Words.{cubes_of}
use Rattle.image_fields.specs.Fields.{field_bits}
use Rattle.image_laws.{specs.Image.cube_fields, specs.Image.node_fields, proofs.Fielding.cubes_bits}
use Rattle.image_write.proofs.Laying.{Going, going-all, going-as, going_next, going-ready, going_done}
use Rattle.image_write.proofs.Following.{spread_cubes, node-bits, cubes-next, cubes-none}
use Rattle.image_write.proofs.put_node.Goals as goal
use Rattle.image_write.proofs.put_node.Goals.{After-number, In-Some}

-- the count, and then the cubes are due
opened : (c : After-number) → Going c.args.o.now c.args.at (field_bits (node_fields (cubes_of c.args.f.now))) c.args.o.now c.args.at
    (cubes_bits c.number.result ++ spread_cubes (cubes_of c.args.f.now))
opened c = going-as (going-all _ c.requires) (node-bits _ _ c.number.ensures)

pub put_field-p-requires : goal.put_field-p-requires
put_field-p-requires c = (omega arith, going-ready (cubes_bits _) _ (opened (goal.at.put_field-p-requires c).After-number))

pub loop-c-init : goal.loop-c-init
loop-c-init c =
    let e = ap (λ s. s.words.now) c.into_iter-c-iterator.ensures.into_iter_gives ∙ c.each-c-items.ensures in
    going-as (going_next (opened (goal.at.loop-c-init c).After-number) c.put_field-p.ensures c.put_field-p.auto.o) (ap (λ w. spread_cubes (cubes_of w)) (sym e))

-- the next cube is due
ahead : (c : In-Some) → Going c.args.o.now c.args.at (field_bits (node_fields (cubes_of c.args.f.now))) c.loop-c.o c.loop-c.p
    (field_bits (cube_fields (lits c.in-Some.c)) ++ spread_cubes (cubes_of c.next.new.self.words.now))
ahead c = going-as c.loop-c.invariant (cubes-next _ _ _ c.in-Some.ensures.steps)

pub put_cube-p-requires : goal.put_cube-p-requires
put_cube-p-requires c = going-ready (field_bits (cube_fields (lits c.in-Some.c))) _ (ahead (goal.at.put_cube-p-requires c).In-Some)

pub loop-c-preserved : goal.loop-c-preserved
loop-c-preserved c = going_next (ahead (goal.at.loop-c-preserved c).In-Some) c.put_cube-p.ensures c.put_cube-p.auto.o

pub returns : goal.returns
returns c = going_done (going-as c.loop-c.invariant (cubes-none _ c.in-None.ensures.steps.0))
