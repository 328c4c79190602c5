-- The answers of `drive_request::bytes`: no byte, `-`, another single one, or two and more. Assumes nothing.
use native.Mathlib.Omega.{arith}
use borrow.Author.Rules.{rules}
use Rattle.std.proofs.lemmas.Grind.{common_steps}
use Rattle.drive_request.proofs.Hexing.{bytes-empty, bytes-none, bytes-other}
use Rattle.drive_request.proofs.Storing.{storing-all, storing-as, storing-none, storing-done}
use Rattle.drive_request.proofs.bytes.Goals as goal
use Rattle.drive_request.proofs.bytes.Goals.{in_default-via-then-word-lt2+in_default-1, in_default-via-else-word-lt2}

pub returns-in-empty-clause-stored : goal.returns-in-empty-clause-stored
returns-in-empty-clause-stored c = storing-none (storing-as (bytes-empty _ c.in-empty.len_below) (storing-all _ _))

pub returns-in-45-clause-stored : goal.returns-in-45-clause-stored
returns-in-45-clause-stored c = storing-done (storing-as (bytes-none _ (omega arith) (omega arith) (search rules)) (storing-all _ _))

pub returns-in_default-clause-stored : goal.returns-in_default-clause-stored
returns-in_default-clause-stored c = elim c.in_default.branch [
  | in_default-via-then-word-lt2+in_default-1 w ↦ rw (bytes-other c.args.word.now (grind (arith, common_steps)) (λ h k. search rules)) c.pairs.ensures.stored
  | in_default-via-else-word-lt2 w ↦ rw (bytes-other c.args.word.now (grind (arith, common_steps)) (λ h. absurd (grind (arith, common_steps)))) c.pairs.ensures.stored
]
