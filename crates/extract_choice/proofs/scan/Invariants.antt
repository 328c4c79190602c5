-- `extract_choice::scan` meets its contract. The loop's invariant: what is held is the best of the entries before e. Assumes nothing.
use mathlib.Core.Path.{◌≡◌}
use Rattle.extract_divisor.specs.Divisor.{weighed_of}
use Rattle.extract_choice.specs.Parts.{best_below, Modest}
use Rattle.extract_choice.proofs.scan.Given as goal

abbrev pub invariant-loop-e : goal.invariant-loop-e
invariant-loop-e l = (weighed_of l.held ≡ best_below l.t l.g l.e) × Modest l.held.weight
