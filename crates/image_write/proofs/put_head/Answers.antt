-- `image_write::put_head` meets its contract: four fields, one after the other. Assumes nothing.
use mathlib.Core.{List.◌++◌}
use native.Mathlib.Omega.{arith}
use Rattle.image_fields.specs.Fields.{bits_of, field_bits}
use Rattle.image_laws.specs.{Widths.edition_field, Widths.edition1, Image.head_fields}
use Rattle.image_laws.proofs.Fielding.{inputs_bits, outputs_bits, divisors_bits}
use Rattle.image_write.proofs.Laying.{Going, going-all, going-as, going_next, going-ready}
use Rattle.image_write.proofs.{Following.head-bits}
use Rattle.image_write.proofs.put_head.Goals as goal
use Rattle.image_write.proofs.put_head.Goals.{After-put_field-p, After-put_field-q, After-put_field-r, Start}

all-due : (s : Start) → let n = s.args.n.now in
    Going s.args.o.now 0 (field_bits (head_fields n.inputs n.outputs n.divisors)) s.args.o.now 0
    (bits_of edition_field edition1.number ++ (inputs_bits n.inputs ++ (outputs_bits n.outputs ++ divisors_bits n.divisors)))
all-due s = let n = s.args.n.now in going-as (going-all _ s.requires.2) (head-bits n.inputs n.outputs n.divisors)

inputs-due : (c : After-put_field-p) → let n = c.args.n.now in
    Going c.args.o.now 0 (field_bits (head_fields n.inputs n.outputs n.divisors)) c.put_field-p.new.o c.put_field-p.result
    (inputs_bits n.inputs ++ (outputs_bits n.outputs ++ divisors_bits n.divisors))
inputs-due c = going_next (all-due (goal.at.After-put_field-p c).Start) c.put_field-p.ensures c.put_field-p.auto.o

outputs-due : (c : After-put_field-q) → let n = c.args.n.now in
    Going c.args.o.now 0 (field_bits (head_fields n.inputs n.outputs n.divisors)) c.put_field-q.new.o c.put_field-q.result
    (outputs_bits n.outputs ++ divisors_bits n.divisors)
outputs-due c = going_next (inputs-due (goal.at.After-put_field-q c).After-put_field-p) c.put_field-q.ensures c.put_field-q.auto.o

divisors-due : (c : After-put_field-r) → let n = c.args.n.now in
    Going c.args.o.now 0 (field_bits (head_fields n.inputs n.outputs n.divisors)) c.put_field-r.new.o c.put_field-r.result (divisors_bits n.divisors)
divisors-due c = going_next (outputs-due (goal.at.After-put_field-r c).After-put_field-q) c.put_field-r.ensures c.put_field-r.auto.o

pub put_field-p-requires : goal.put_field-p-requires
put_field-p-requires c = (omega arith, going-ready (bits_of edition_field _) _ (all-due (goal.at.put_field-p-requires c).Start))

pub put_field-q-requires : goal.put_field-q-requires
put_field-q-requires c = (omega arith, going-ready (bits_of edition1.inputs _) _ (inputs-due (goal.at.put_field-q-requires c).After-put_field-p))

pub put_field-r-requires : goal.put_field-r-requires
put_field-r-requires c = (omega arith, going-ready (bits_of edition1.outputs _) _ (outputs-due (goal.at.put_field-r-requires c).After-put_field-q))

pub put_field-requires : goal.put_field-requires
put_field-requires c = (omega arith, (divisors-due (goal.at.put_field-requires c).After-put_field-r).room)

pub returns : goal.returns
returns c = (divisors-due (goal.at.returns c).After-put_field-r).ends c.put_field.ensures
