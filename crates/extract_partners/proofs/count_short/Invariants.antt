-- `extract_partners::count_short` meets its contract. The loop's invariant: the first e removals are in the chains, and each two of them are
-- met. Assumes nothing.
use lib.ListN.{take}
use Rattle.expression.specs.Words.{cubes_of}
use Rattle.extract_gains.specs.Gains.{Turns, none}
use Rattle.extract_partners.specs.Table.{use_gain, every_two, Entered}
use Rattle.extract_partners.proofs.count_short.Given as goal

abbrev pub invariant-loop-e : goal.invariant-loop-e
invariant-loop-e l =
    Entered (cubes_of l.f) l.ws l.r l.e × Turns l.initial.t l.initial.g l.t l.g none (λ k. every_two (use_gain (cubes_of l.f) k) (take l.e l.ws))
