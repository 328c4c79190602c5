-- `blif_lines::mark_last` meets its contract: a variable that may come next has a next number. Assumes nothing.
use mathlib.Core.Path.{refl}
use native.Mathlib.Omega.{arith}
use Rattle.blif_lines.proofs.mark_last.Goals as goal

pub overflow_add-result : goal.overflow_add-result
overflow_add-result c = record { fits = omega (arith, (rw c.in-Variable.is at c.requires) c.in-Variable.v refl) }
