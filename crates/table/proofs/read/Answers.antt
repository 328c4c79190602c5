-- `table::read` meets its contract: the lines scanned, and the network built of what they hold. Assumes nothing.
use mathlib.Core.Path.{◌≡◌, ◌∙◌, sym, subst}
use lib.Seq.{length-take-le}
use Rattle.expression.proofs.Words.{room-cubes}
use Rattle.network.specs.Handed.{Holds}
use Rattle.table.specs.Table.{most_rows, State, accepted, read_text}
use Rattle.std.specs.Prelude.{unwrap_or}
use Rattle.table.{specs.Parts.Stands, specs.Parts.Buildable, proofs.Scanning.text-read, proofs.Scanning.text-refused, proofs.read.Goals.In-Read}
use Rattle.table.proofs.{Refusals.text-long, Refusals.accepted-complete, Marking.kept-buildable, Marking.net-same, Marking.net-cut, Marking.cut-buildable}
use borrow.Author.Rules.{rules}
use Rattle.table.proofs.read.Goals as goal

pub returns-then-text-gt-MOST_BYTES : goal.returns-then-text-gt-MOST_BYTES
returns-then-text-gt-MOST_BYTES c = rw (text-long _ c.if-text-gt-MOST_BYTES.true) (rw c.whole.ensures at c.refused.ensures)

pub returns-in_default : goal.returns-in_default
returns-in_default c =
    text-refused _ _ c.args.text.now c.if-text-gt-MOST_BYTES.false c.scan-scanned.result c.scan-scanned.ensures c.refused-in_default.result _
    c.in_default.is c.refused-in_default.ensures

-- what was read, of which the outcome is made
read-in : (q : In-Read) → (t : State) × (read_text q.args.text.now ≡ accepted t)
    × Stands t q.scan-scanned.result.state q.scan-scanned.new.words q.scan-scanned.new.marks
read-in q = text-read _ _ q.args.text.now q.if-text-gt-MOST_BYTES.false q.scan-scanned.result q.scan-scanned.ensures q.in-Read.is

built_from : (q : In-Read) → let s = q.scan-scanned.result.state in
    Buildable q.scan-scanned.new.words q.scan-scanned.new.marks s.kept (unwrap_or s.outputs 0)
built_from q =
    let r = read-in q in
    kept-buildable (accepted-complete q.args.text.now r.0 r.1).2 r.2 (room-cubes q.scan-scanned.new.words most_rows (search rules)) (search rules)

pub slice_bounds-build-end-2 : goal.slice_bounds-build-end-2
slice_bounds-build-end-2 c = sym (length-take-le _ _ (built_from (goal.at.slice_bounds-build-end-2 c).In-Read).source.masks)

pub build-requires : goal.build-requires
build-requires c = rw c.unwrap_or-m.ensures (cut-buildable (built_from (goal.at.build-requires c).In-Read))

pub returns : goal.returns
returns c =
    let q = (goal.at.returns c).In-Read in
    let r = read-in q in
    rw r.1 (
      c.in-Read.is,
      subst (Holds c.build.result) (net-cut (built_from q) _ ∙ net-same r.2)
          (rw (c.unwrap_or-n.ensures, c.unwrap_or-m.ensures) at c.build.ensures),
    )

pub scan-scanned-requires : goal.scan-scanned-requires
scan-scanned-requires c = record { short = search rules; places = room-cubes _ most_rows (search rules); masks = search rules }
