-- `table_kinds::decimal_of` meets its contract. The loop's invariant: the digits so far wrote n, and what is left decides. Assumes nothing.
use Rattle.std.proofs.Common.{◌≡◌, ◌^◌, ◌<◌, drop}
use Rattle.sets.specs.Lists.{all}
use Rattle.letters.specs.Meaning.{read_back, is_digit}
use Rattle.table_kinds.proofs.decimal_of.Given as goal

abbrev pub invariant-loop-b : goal.invariant-loop-b
invariant-loop-b l =
    (l.n < 10 ^ l.b-index) × (read_back l.n (drop l.b-index l.t) ≡ read_back 0 l.t) × (all is_digit (drop l.b-index l.t) ≡ all is_digit l.t)
