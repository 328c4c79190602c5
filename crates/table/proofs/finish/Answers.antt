-- `table::finish` meets its contract: `.i` and `.o` are there, and `.p` agrees. Assumes nothing.
use Rattle.std.proofs.Common.{◌∙◌}
use borrow.Author.Tests.{eq-eqb, ne_eqb}
use Rattle.table.specs.Table.{finish}
use Rattle.table.proofs.Standing.{missing-held, agrees-unstated, agrees}
use Rattle.table.proofs.finish.Goals as goal
use Rattle.table.proofs.finish.Goals.{then-is_none-via-then-is_none, then-is_none-via-else-is_none+then-is_none-2}

pub returns-then-is_none : goal.returns-then-is_none
unfolding finish
returns-then-is_none c = λ t words marks g h. elim c.then-is_none.branch [
  | then-is_none-via-then-is_none w ↦ rw (missing-held _ _ h.wide c.is_none.ensures ∙ w.if-is_none.true)
  | then-is_none-via-else-is_none+then-is_none-2 w ↦ rw (
    missing-held _ _ h.wide c.is_none.ensures ∙ w.if-is_none.false,
    missing-held _ _ h.tall w.is_none-else-is_none.ensures ∙ w.if-is_none-2.true,
  )
]

pub returns-in-Some : goal.returns-in-Some
unfolding finish
returns-in-Some c = λ t words marks g h. rw (
  missing-held _ _ h.wide c.is_none.ensures ∙ c.if-is_none.false,
  missing-held _ _ h.tall c.is_none-else-is_none.ensures ∙ c.if-is_none-2.false,
  agrees g h c.in-Some.is ∙ ne_eqb _ _ c.if-p-s.true,
)

pub returns-in_default : goal.returns-in_default
unfolding finish
returns-in_default c = λ t words marks g h. rw (
  missing-held _ _ h.wide c.is_none.ensures ∙ c.if-is_none.false,
  missing-held _ _ h.tall c.is_none-else-is_none.ensures ∙ c.if-is_none-2.false,
  agrees g h c.in-Some.is ∙ eq-eqb _ _ c.if-p-s.false,
) h

pub returns-in_default-2 : goal.returns-in_default-2
unfolding finish
returns-in_default-2 c = λ t words marks g h. rw (
  missing-held _ _ h.wide c.is_none.ensures ∙ c.if-is_none.false,
  missing-held _ _ h.tall c.is_none-else-is_none.ensures ∙ c.if-is_none-2.false,
  agrees-unstated g h c.in_default.is,
) h
