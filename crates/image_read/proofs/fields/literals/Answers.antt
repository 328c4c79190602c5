-- The answers of `image_read::fields::literals`.
use mathlib.Core.Path.{◌≡◌, refl, sym, ◌∙◌}
use mathlib.Core.Bool.{◌&&◌}
use native.Mathlib.Omega.{arith}
use borrow.Author.Rules.{rules}
use lib.Dec.{ltb}
use lib.ListN.{drop}
use Rattle.std.proofs.Common.{Some}
use Rattle.sets.specs.Lists.{all}
use Rattle.cube.specs.Cube.{lits}
use Rattle.image_fields.specs.Fields.{bits_in}
use Rattle.image_laws.specs.Widths.{edition1}
use Rattle.image_read.specs.Parts.{FieldIs}
use Rattle.image_read.proofs.{Heading.field_below, Fielding.field_some, Fielding.field_none}
use Rattle.image_read.proofs.Gathering.{gather_none, gather-cut, gather-bad, gather-next, gather-end}
use Rattle.image_read.proofs.fields.literals.Goals as goal
use Rattle.image_read.proofs.fields.literals.Goals.{In_ok-x, then-ascending, else-ascending}

-- the field that was read
read : (k : In_ok-x) → FieldIs edition1.literal (drop k.loop-i.at (bits_in k.args.bytes.now)) (Some k.in_ok-x.x)
read k = rw (field_some _ k.ok_or.ensures.value k.in_ok-x.was) at k.field_at.ensures

pub loop-i-init : goal.loop-i-init
loop-i-init c = (omega arith, gather_none _ _ _ _ _ c.empty-seen.ensures)

pub returns-in_err-x : goal.returns-in_err-x
returns-in_err-x c =
    let n = field_none _ c.ok_or.ensures.value c.in_err-x.was in
    let q = gather-cut c.loop-i.invariant.1 c.loop-i-test.true (rw n.0 at c.field_at.ensures) in
    search (rules, q, n)

pub overflow_cast-l : goal.overflow_cast-l
overflow_cast-l c = omega (arith, field_below edition1.literal _ _ (read (goal.at.overflow_cast-l c).In_ok-x))

pub returns-then-not-is_allowed : goal.returns-then-not-is_allowed
returns-then-not-is_allowed c =
    gather-bad c.loop-i.invariant.1 c.loop-i-test.true _ (read (goal.at.returns-then-not-is_allowed c).In_ok-x)
    (sym c.is_allowed.ensures ∙ c.if-not-is_allowed.true)

pub loop-i-preserved : goal.loop-i-preserved
loop-i-preserved c =
    let up : c.if-ascending.ascending ≡ (c.loop-i.ascending && all (λ y. ltb y c.in_ok-x.x) (lits c.loop-i.seen)) = elim c.if-ascending.branch [
      | then-ascending w ↦ w.ascending-is ∙ w.is_below-ascending.ensures ∙ sym (rw w.if-ascending.true refl)
      | else-ascending w ↦ w.ascending-is ∙ sym (rw w.if-ascending.false refl)
    ] in (
      omega (arith, c.loop-i.invariant.0),
      gather-next c.loop-i.invariant.1 c.loop-i-test.true _ (read (goal.at.loop-i-preserved c).In_ok-x) c.requires.1
          (sym c.is_allowed.ensures ∙ c.if-not-is_allowed.false) _ c.with-seen.ensures _ up,
    )

pub returns : goal.returns
returns c =
    gather-end c.loop-i.invariant.1 c.loop-i-test.false (omega (arith, c.requires.2)) (omega (arith, c.requires.2, c.loop-i.invariant.0)) c.loop-i.seen refl (omega arith)
