-- `image_read::node` meets its contract. Assumes nothing.
use borrow.Author.Rules.{rules}
use lib.ListN.{drop}
use Rattle.std.proofs.Common.{Some}
use Rattle.image_fields.specs.Fields.{bits_in}
use Rattle.image_laws.specs.Widths.{edition1}
use Rattle.image_read.specs.Parts.{FieldIs}
use Rattle.image_read.proofs.Fielding.{field_some, field_none}
use Rattle.image_read.proofs.Filling.{node-cut, node-bad, node-are}
use Rattle.image_read.proofs.nodes.node.Goals as goal
use Rattle.image_read.proofs.nodes.node.Goals.{In_ok-k}

pub returns-in_err-k : goal.returns-in_err-k
returns-in_err-k c =
    let n = field_none _ c.ok_or.ensures.value c.in_err-k.was in
    let q = node-cut (bits_in c.args.bytes.now) c.args.v c.args.start (rw n.0 at c.field_at.ensures) in
    search (rules, q, n)

-- the count that was read
count : (c : In_ok-k) → FieldIs edition1.cubes (drop c.args.start.at (bits_in c.args.bytes.now)) (Some c.in_ok-k.k)
count c = rw (field_some _ c.ok_or.ensures.value c.in_ok-k.was) at c.field_at.ensures

pub returns-then-k-gt-MOST_CUBES : goal.returns-then-k-gt-MOST_CUBES
returns-then-k-gt-MOST_CUBES c =
    node-bad (bits_in c.args.bytes.now) c.args.v c.args.start _ (count (goal.at.returns-then-k-gt-MOST_CUBES c).In_ok-k) c.if-k-gt-MOST_CUBES.true

pub returns : goal.returns
returns c =
    node-are _ _ _ _ (count (goal.at.returns c).In_ok-k) c.if-k-gt-MOST_CUBES.false _ _ c.cubes.result c.cubes.ensures
