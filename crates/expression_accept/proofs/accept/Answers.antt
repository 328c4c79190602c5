-- `expression_accept::accept` meets its contract: each refusal by what the tests before it say. Assumes nothing.
use mathlib.Core.Path.{sym, ◌∙◌}
use Rattle.expression_accept.proofs.Accepting.{refused-many, refused-spare, refused-expression}
use Rattle.expression_accept.proofs.accept.Goals as goal
use Rattle.expression_accept.proofs.accept.Goals.{then-s-ne0-via-then-s-ne0, then-s-ne0-via-else-s-ne0+then-not-is_expression}

pub returns-then-s-gt-WORDS : goal.returns-then-s-gt-WORDS
returns-then-s-gt-WORDS c = sym (refused-many _ c.if-s-gt-WORDS.true)

pub returns-then-s-ne0 : goal.returns-then-s-ne0
returns-then-s-ne0 c = elim c.then-s-ne0.branch [
  | then-s-ne0-via-then-s-ne0 w ↦ sym (refused-spare _ c.if-s-gt-WORDS.false w.if-s-ne0.true)
  | then-s-ne0-via-else-s-ne0+then-not-is_expression w ↦
      sym (refused-expression _ c.if-s-gt-WORDS.false w.if-s-ne0.false ∙ rw (sym w.is_expression.ensures ∙ w.if-not-is_expression.true))
]

pub returns : goal.returns
returns c = sym (refused-expression _ c.if-s-gt-WORDS.false c.if-s-ne0.false ∙ rw (sym c.is_expression.ensures ∙ c.if-not-is_expression.false))
