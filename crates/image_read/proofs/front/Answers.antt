-- `image_read::front` meets its contract. Each field is the field of the definition. Assumes nothing.
use borrow.Author.Rules.{rules}
use lib.ListN.{drop}
use Rattle.std.proofs.Common.{Some}
use Rattle.image_fields.specs.Fields.{bits_in}
use Rattle.image_laws.specs.Widths.{edition_field, edition1}
use Rattle.image_read.specs.Parts.{FieldIs}
use Rattle.image_read.proofs.Fielding.{field_some, field_none}
use Rattle.image_read.proofs.Heading.{inputs_at, outputs_at, divisors_at, field_below, edition-cut, edition-bad, inputs-cut, outputs-cut, divisors-cut, sizes-are}
use Rattle.image_read.proofs.front.Goals as goal
use Rattle.image_read.proofs.front.Goals.{In_ok-e, In_ok-a, In_ok-b, In_ok-k}

-- the fields that were read
edition : (v : In_ok-e) → FieldIs edition_field (bits_in v.args.bytes.now) (Some v.in_ok-e.e)
edition v = rw (field_some _ v.ok_or.ensures.value v.in_ok-e.was) at v.field_at.ensures

inputs : (v : In_ok-a) → FieldIs edition1.inputs (drop inputs_at (bits_in v.args.bytes.now)) (Some v.in_ok-a.a)
inputs v = rw (field_some _ v.ok_or-2.ensures.value v.in_ok-a.was) at v.field_at-2.ensures

outputs : (v : In_ok-b) → FieldIs edition1.outputs (drop outputs_at (bits_in v.args.bytes.now)) (Some v.in_ok-b.b)
outputs v = rw (field_some _ v.ok_or-3.ensures.value v.in_ok-b.was) at v.field_at-3.ensures

divisors : (v : In_ok-k) → FieldIs edition1.divisors (drop divisors_at (bits_in v.args.bytes.now)) (Some v.in_ok-k.k)
divisors v = rw (field_some _ v.ok_or-4.ensures.value v.in_ok-k.was) at v.field_at-4.ensures

pub returns-in_err-e : goal.returns-in_err-e
returns-in_err-e c =
    let n = field_none _ c.ok_or.ensures.value c.in_err-e.was in
    let q = edition-cut (bits_in c.args.bytes.now) (rw n.0 at c.field_at.ensures) in
    search (rules, q, n)

pub returns-then-e-ne-EDITION : goal.returns-then-e-ne-EDITION
returns-then-e-ne-EDITION c =
    edition-bad (bits_in c.args.bytes.now) _ (edition (goal.at.returns-then-e-ne-EDITION c).In_ok-e) c.if-e-ne-EDITION.true

pub returns-in_err-a : goal.returns-in_err-a
returns-in_err-a c =
    let n = field_none _ c.ok_or-2.ensures.value c.in_err-a.was in
    let q = inputs-cut (bits_in c.args.bytes.now) _ (edition (goal.at.returns-in_err-a c).In_ok-e) c.if-e-ne-EDITION.false (rw n.0 at c.field_at-2.ensures) in
    search (rules, q, n)

pub returns-in_err-b : goal.returns-in_err-b
returns-in_err-b c =
    let n = field_none _ c.ok_or-3.ensures.value c.in_err-b.was in
    let q = outputs-cut (bits_in c.args.bytes.now) _ (edition (goal.at.returns-in_err-b c).In_ok-e) c.if-e-ne-EDITION.false _ (inputs (goal.at.returns-in_err-b c).In_ok-a)
    (rw n.0 at c.field_at-3.ensures) in
    search (rules, q, n)

pub returns-in_err-k : goal.returns-in_err-k
returns-in_err-k c =
    let n = field_none _ c.ok_or-4.ensures.value c.in_err-k.was in
    let q = divisors-cut (bits_in c.args.bytes.now) _ (edition (goal.at.returns-in_err-k c).In_ok-e) c.if-e-ne-EDITION.false _ (inputs (goal.at.returns-in_err-k c).In_ok-a)
    _ (outputs (goal.at.returns-in_err-k c).In_ok-b) (rw n.0 at c.field_at-4.ensures) in
    search (rules, q, n)

pub sizes_of-requires : goal.sizes_of-requires
sizes_of-requires c = (
  field_below edition1.inputs _ _ (inputs (goal.at.sizes_of-requires c).In_ok-a),
  field_below edition1.outputs _ _ (outputs (goal.at.sizes_of-requires c).In_ok-b),
  field_below edition1.divisors _ _ (divisors (goal.at.sizes_of-requires c).In_ok-k),
)

pub returns : goal.returns
returns c =
    sizes-are (bits_in c.args.bytes.now) _ (edition (goal.at.returns c).In_ok-e) c.if-e-ne-EDITION.false _ (inputs (goal.at.returns c).In_ok-a) _ (outputs (goal.at.returns c).In_ok-b)
    _ (divisors (goal.at.returns c).In_ok-k) c.sizes_of.result c.sizes_of.ensures
