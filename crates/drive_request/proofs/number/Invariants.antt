-- `drive_request::number` meets its contract. The loop's invariant: the digits so far have given a number below 16 to their count. Assumes nothing.
use mathlib.Core.Path.{◌≡◌}
use Prim.Native.Nat.{◌^◌, ◌<◌}
use lib.ListN.{drop}
use Rattle.drive_request.specs.Numbers.{hex_after}
use Rattle.drive_request.proofs.number.Given as goal

abbrev pub invariant-loop-b : goal.invariant-loop-b
invariant-loop-b l = (l.value < 16 ^ l.b-index) × (hex_after l.value (drop l.b-index l.word) ≡ hex_after 0 l.word)
