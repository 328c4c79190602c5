-- `network_known::has_plain` meets its contract: a number past the last variable has no literal in a cube. Assumes nothing.
use Rattle.std.proofs.Common.{sym, arith}
use borrow.Author.Tests.{le-ltb}
use Rattle.sets.{specs.Literal.plain_of, proofs.Truth.refuted}
use Rattle.cube.proofs.Lits.{lits-inside}
use Rattle.network_known.proofs.has_plain.Goals as goal

pub returns-else-v-lt-VARIABLES : goal.returns-else-v-lt-VARIABLES
returns-else-v-lt-VARIABLES c =
    rw (le-ltb _ _ c.if-v-lt-VARIABLES.false) (sym (refuted (λ m. absurd (omega (arith, lits-inside c.args.c (plain_of c.args.v) m)))))
