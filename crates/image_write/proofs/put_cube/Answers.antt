-- The answers of `image_write::put_cube`.
use mathlib.Core.Path.{◌∙◌, sym, ap}
use mathlib.Core.List.{◌∷◌, ◌++◌}
use native.Mathlib.Omega.{arith}
use Rattle.cube.specs.Cube.{lits}
use Rattle.image_fields.specs.Fields.{field_bits}
use Rattle.image_laws.{specs.Image.cube_fields, proofs.Fielding.literals_bits, proofs.Fielding.literal_bits}
use Rattle.image_write.proofs.Laying.{Going, going-all, going-as, going_next, going-ready, going_done}
use Rattle.image_write.proofs.Following.{spread, cube-bits, literals-next, literals-none}
use Rattle.image_write.proofs.put_cube.Goals as goal
use Rattle.image_write.proofs.put_cube.Goals.{After-from, After-from-in-loop-l}

-- the count, and then the literals are due
opened : (c : After-from) → Going c.args.o.now c.args.at (field_bits (cube_fields (lits c.args.c))) c.args.o.now c.args.at
    (literals_bits c.from.result ++ spread (lits c.args.c))
opened c = going-as (going-all _ c.requires) (cube-bits _ _ (c.from.ensures ∙ c.count.ensures))

pub put_field-p-requires : goal.put_field-p-requires
put_field-p-requires c = (omega arith, going-ready (literals_bits _) _ (opened (goal.at.put_field-p-requires c).After-from))

pub loop-l-init : goal.loop-l-init
loop-l-init c =
    let e = ap (λ s. s.rest) c.into_iter-l-iterator.ensures.into_iter_gives ∙ c.each-l-items.ensures in
    going-as (going_next (opened (goal.at.loop-l-init c).After-from) c.put_field-p.ensures c.put_field-p.auto.o) (ap (λ d. spread (lits d)) (sym e))

-- the next literal is due
ahead : (c : After-from-in-loop-l) → Going c.args.o.now c.args.at (field_bits (cube_fields (lits c.args.c))) c.loop-l.o c.loop-l.p
    (literal_bits c.from-in-loop-l.result ++ spread (lits c.next.new.self.rest))
ahead c =
    going-as c.loop-l.invariant (literals-next _ _ _ (c.in-Some.ensures.steps ∙ ap (◌∷ lits c.next.new.self.rest) (sym c.from-in-loop-l.ensures)))

pub put_field-p-requires-in-loop-l : goal.put_field-p-requires-in-loop-l
put_field-p-requires-in-loop-l c =
    (omega arith, going-ready (literal_bits _) _ (ahead (goal.at.put_field-p-requires-in-loop-l c).After-from-in-loop-l))

pub loop-l-preserved : goal.loop-l-preserved
loop-l-preserved c =
    going_next (ahead (goal.at.loop-l-preserved c).After-from-in-loop-l) c.put_field-p-in-loop-l.ensures c.put_field-p-in-loop-l.auto.o

pub returns : goal.returns
returns c = going_done (going-as c.loop-l.invariant (literals-none _ c.in-None.ensures.steps.0))
